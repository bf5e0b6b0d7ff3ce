use Rattle.std.proofs.Common.{◌≡◌, map, take}
use Rattle.std.specs.List.{list_any}
use Rattle.model_sta.specs.Sets.{fires}
use Rattle.model_sta.specs.Least.{rows_at}
use Rattle.sta_classes.specs.Rules.{plain_rules, meaning_of}
use Rattle.sta_min.proofs.steps.states_of.Given as goal

abbrev pub invariant-states : goal.invariant-states
invariant-states g l =
    map (λ b. b) l.row.items
    ≡ map (list_any (fires l.node.constructor (g.T.Theory.label_of l.node.value.now) (rows_at l.steps.table.now.found l.node.children.now))) (meaning_of g.T.Theory.atom_holds (plain_rules (take l.rules-index l.steps.rules.now)))
