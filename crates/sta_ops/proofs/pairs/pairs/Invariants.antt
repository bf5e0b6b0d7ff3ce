use Rattle.std.proofs.Common.{◌≡◌, map, take}
use Rattle.sta_core.specs.Machine.{plain_rule}
use Rattle.sta_ops.specs.Rules.{pairs}
use Rattle.sta_ops.proofs.pairs.pairs.Given as goal

abbrev pub invariant-loop-rule : goal.invariant-loop-rule
invariant-loop-rule g l = map plain_rule l.rules.items ≡ pairs (map plain_rule (take l.rule-index l.first)) (map plain_rule l.second)
