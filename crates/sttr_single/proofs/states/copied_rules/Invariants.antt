use Rattle.std.proofs.Common.{◌≡◌, map, take}
use Rattle.sta_core.specs.Machine.{plain_rule}
use Rattle.sttr_single.proofs.states.copied_rules.Given as goal

abbrev pub invariant-loop-rule : goal.invariant-loop-rule
invariant-loop-rule g l = map plain_rule l.copies.items ≡ map plain_rule (take l.rule-index l.rules)
