use Rattle.std.proofs.Common.{◌≡◌, ◌++◌, map, take}
use Rattle.sta_core.specs.Machine.{plain_rule}
use Rattle.sta_ops.specs.Rules.{moved}
use Rattle.sta_ops.proofs.copies.either.Given as goal

abbrev pub invariant-loop-rule : goal.invariant-loop-rule
invariant-loop-rule g l = map plain_rule l.rules.items ≡ map plain_rule l.first ++ map (λ r. moved l.by (plain_rule r)) (take l.rule-index l.second)
