use Rattle.std.proofs.Common.{◌≡◌, ◌++◌, map, take}
use Rattle.sta_core.specs.Machine.{plain_rule}
use Rattle.sta_classes.specs.Rules.{plain_rules}
use Rattle.sta_ops.specs.Rules.{moved}
use Rattle.sta_ops.proofs.copies.add_states.Given as goal

abbrev pub invariant-loop-those : goal.invariant-loop-those
invariant-loop-those g l = plain_rules l.rules.items ≡ plain_rules l.initial.rules.items ++ map (λ those. map (λ r. moved l.by (plain_rule r)) those.items) (take l.those-index l.from)
