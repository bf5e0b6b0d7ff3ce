use Rattle.std.proofs.Common.{◌≡◌, ◌++◌, map, take}
use Rattle.sta_core.specs.Machine.{plain_rule}
use Rattle.sta_ops.specs.Rules.{pairs_with}
use Rattle.sta_ops.proofs.pairs.add_pairs.Given as goal

abbrev pub invariant-loop-other : goal.invariant-loop-other
invariant-loop-other g l = map plain_rule l.rules.items ≡ map plain_rule l.initial.rules.items ++ pairs_with (plain_rule l.rule) (map plain_rule (take l.other-index l.others))
