use Rattle.std.proofs.Common.{◌≡◌, ◌++◌, map, drop}
use Rattle.sta_core.specs.Machine.{plain_rule}
use Rattle.sta_marks.specs.Rules.{owned_of, plain_owned}
use Rattle.sta_marks.proofs.rules.add_rules.Given as goal

abbrev pub invariant-rules : goal.invariant-rules
invariant-rules g l =
    map plain_owned l.list.items ++ owned_of l.constructor l.state (map plain_rule (drop l.rule-index l.rules)) ≡ map plain_owned l.initial.list.items ++ owned_of l.constructor l.state (map plain_rule l.rules)
