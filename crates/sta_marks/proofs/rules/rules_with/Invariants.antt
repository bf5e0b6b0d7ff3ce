use Rattle.std.proofs.Common.{◌≡◌, ◌++◌, map, drop}
use Rattle.sta_marks.specs.Rules.{plain_rules, owned_from, plain_owned}
use Rattle.sta_marks.proofs.rules.rules_with.Given as goal

abbrev pub invariant-states : goal.invariant-states
invariant-states g l = map plain_owned l.list.items ++ owned_from l.constructor l.state (plain_rules (drop l.state l.rules)) ≡ owned_from l.constructor 0 (plain_rules l.rules)
