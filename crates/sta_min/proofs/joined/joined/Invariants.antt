use Rattle.std.proofs.Common.{◌≡◌, [], map, take, get_or}
use Rattle.std.specs.List.{flat_map}
use Rattle.sta_core.specs.Machine.{plain_rule}
use Rattle.sta_classes.specs.Rules.{plain_rules}
use Rattle.sta_min.proofs.joined.joined.Given as goal

abbrev pub invariant-states : goal.invariant-states
invariant-states g l = map plain_rule l.joined.items ≡ flat_map (λ i. get_or (plain_rules l.rules) i []) (take l.state-index l.states)
