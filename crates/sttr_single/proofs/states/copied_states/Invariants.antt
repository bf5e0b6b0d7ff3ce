use Rattle.std.proofs.Common.{◌≡◌, take}
use Rattle.sta_classes.specs.Rules.{plain_rules}
use Rattle.sttr_single.proofs.states.copied_states.Given as goal

abbrev pub invariant-loop-rules : goal.invariant-loop-rules
invariant-loop-rules g l = plain_rules l.copies.items ≡ plain_rules (take l.rules-index l.states)
