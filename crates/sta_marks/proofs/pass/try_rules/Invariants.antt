use Rattle.std.proofs.Common.{[], map, drop, get_or}
use Rattle.sta_marks.specs.Filled.{tried_each}
use Rattle.sta_marks.specs.Rows.{rows_at}
use Rattle.sta_marks.specs.Rules.{plain_owned}
use Rattle.sta_marks.proofs.Tried.{IsTried}
use Rattle.sta_marks.proofs.pass.try_rules.Given as goal

abbrev pub invariant-rules : goal.invariant-rules
invariant-rules g l =
    let label = g.T.Theory.label_of l.value in
    let start = l.initial.marks in
    IsTried g.T.Theory.atom_holds label start l.node l.children l.marks (map plain_owned (drop l.own-index l.list)) (tried_each g.T.Theory.atom_holds label (rows_at start l.children) (get_or start.rows l.node []) (map plain_owned l.list))
