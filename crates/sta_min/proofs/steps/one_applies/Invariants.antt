use Rattle.std.proofs.Common.{◌≡◌, map, drop}
use Rattle.std.specs.List.{list_any}
use Rattle.model_sta.specs.Sets.{fires}
use Rattle.model_sta.specs.Least.{rows_at}
use Rattle.sta_core.specs.Machine.{plain_rule}
use Rattle.sta_core.specs.Sta.{rule_meaning}
use Rattle.sta_min.proofs.steps.one_applies.Given as goal

abbrev pub invariant-loop-rule : goal.invariant-loop-rule
invariant-loop-rule g l =
    list_any (fires l.node.constructor (g.T.Theory.label_of l.node.value.now) (rows_at l.table.found l.node.children.now)) (map (rule_meaning g.T.Theory.atom_holds) (map plain_rule (drop l.rule-index l.rules)))
    ≡ list_any (fires l.node.constructor (g.T.Theory.label_of l.node.value.now) (rows_at l.table.found l.node.children.now)) (map (rule_meaning g.T.Theory.atom_holds) (map plain_rule l.rules))
