use Rattle.std.proofs.Common.{IfErr, ◌≡◌, ◌+◌, length, map, ap, ap₂, sym, subst, ◌∙◌}
use Rattle.std.proofs.lemmas.List.{length-map}
use Rattle.std.proofs.lemmas.Result.{err_from_is_err_and}
use Rattle.sta_core.specs.Machine.{plain_rule}
use Rattle.sta_core.specs.Sta.{AtomsFit}
use Rattle.sta_classes.specs.Meant.{IsTableOf, StopsClasses}
use Rattle.sta_ops.specs.Empty.{side_by_side, StopsEither}
use Rattle.sta_ops.specs.Rules.{beside}
use Rattle.sta_ops.proofs.Answered.{both_are, both_fit, compared_from}
use Rattle.sta_ops.proofs.Owing.{stops_either}
use Rattle.sta_ops.proofs.Fitting.{known_fit, machine_fits}
use Rattle.sta_ops.proofs.comparison.compare.Goals as goal

pub side_by_side-requires-clause-first : goal.side_by_side-requires-clause-first
side_by_side-requires-clause-first g c = known_fit c.args.a.now.sta c.ranks.result.now c.rules-first.result.now c.ranks.ensures c.rules-first.ensures.rules c.rules-first.ensures.fit

pub side_by_side-requires-clause-second : goal.side_by_side-requires-clause-second
side_by_side-requires-clause-second g c = known_fit c.args.b.now.sta c.ranks.result.now c.rules-second.result.now (c.ranks.ensures ∙ sym c.requires.ranks) c.rules-second.ensures.rules c.rules-second.ensures.fit

pub classes-requires : goal.classes-requires
classes-requires g c =
    let a = c.args.a.now in
    let b = c.args.b.now in
    let are : c.in_ok-both.both ≡ side_by_side a b = both_are c.in_ok-both.both a b c.ranks.result.now c.in_ok-both.ensures.ranks c.ranks.ensures (c.in_ok-both.ensures.rules ∙ ap₂ beside c.rules-first.ensures.rules c.rules-second.ensures.rules) in
    record { fit = subst (AtomsFit (g.T.Theory.atom_fits c.args.theory.now)) (sym are) (both_fit (g.T.Theory.atom_fits c.args.theory.now) a b c.requires.first_fit c.requires.second_fit) }

pub least_tree-requires-clause-table : goal.least_tree-requires-clause-table
least_tree-requires-clause-table g c = subst (λ m. IsTableOf (g.T.Theory.meaning c.args.theory.now) m c.in_ok-table.table) (sym c.in_ok-table.ensures.machine) c.in_ok-table.ensures.table

pub returns-clause-found : goal.returns-clause-found
returns-clause-found g c =
    let a = c.args.a.now in
    let b = c.args.b.now in
    let are : c.in_ok-both.both ≡ side_by_side a b = both_are c.in_ok-both.both a b c.ranks.result.now c.in_ok-both.ensures.ranks c.ranks.ensures (c.in_ok-both.ensures.rules ∙ ap₂ beside c.rules-first.ensures.rules c.rules-second.ensures.rules) in
    let many : length c.rules-first.result.now ≡ length a.sta.rules = sym (length-map c.rules-first.result.now (λ those. map plain_rule those.items)) ∙ ap length c.rules-first.ensures.rules in
    compared_from (g.T.Theory.meaning c.args.theory.now) a b (machine_fits a.sta c.rules-first.result.now c.rules-first.ensures.rules c.rules-first.ensures.fit) (machine_fits b.sta c.rules-second.result.now c.rules-second.ensures.rules c.rules-second.ensures.fit) c.requires.first c.requires.second
    c.args.wanted c.in_ok-table.table.machine c.in-Some.other c.args.most c.in_ok-found.found (c.in_ok-table.ensures.machine ∙ are) (c.in-Some.ensures.1 ∙ ap (λ n. n + b.state) many) c.in_ok-found.ensures

pub returns-in_err-table-clause-stop : goal.returns-in_err-table-clause-stop
returns-in_err-table-clause-stop g c =
    let a = c.args.a.now in
    let b = c.args.b.now in
    let M = g.T.Theory.meaning c.args.theory.now in
    let are : c.in_ok-both.both ≡ side_by_side a b = both_are c.in_ok-both.both a b c.ranks.result.now c.in_ok-both.ensures.ranks c.ranks.ensures (c.in_ok-both.ensures.rules ∙ ap₂ beside c.rules-first.ensures.rules c.rules-second.ensures.rules) in
    let p = err_from_is_err_and c.from_residual-in_err-table.result c.from_residual-in_err-table.ensures.1 in
    let stop = (c.in_err-table.ensures {u = tt}).stop in
    subst (λ r. IfErr r (StopsEither M a b c.args.most)) (sym p.1)
    (subst (StopsEither M a b c.args.most) (sym p.2)
    (stops_either M a b (machine_fits a.sta c.rules-first.result.now c.rules-first.ensures.rules c.rules-first.ensures.fit) (machine_fits b.sta c.rules-second.result.now c.rules-second.ensures.rules c.rules-second.ensures.fit) c.requires.first c.requires.second c.args.most c.in_err-table.field-0.0
    (subst (λ m. StopsClasses M m c.args.most c.in_err-table.field-0.0) are stop)))
