use Rattle.std.proofs.Common.{map, take}
use Rattle.sta_core.specs.Machine.{plain_rule}
use Rattle.sttr_preimage.specs.Names.{names_in}
use Rattle.sttr_preimage.specs.Rules.{AreCopied}
use Rattle.sttr_preimage.proofs.rules.copied_rules.Given as goal

abbrev pub invariant-rules : goal.invariant-rules
invariant-rules g l = AreCopied (names_in l.initial.names.keys) (names_in l.names.keys) l.side (map plain_rule (take l.rule-index l.rules)) (map plain_rule l.made.items)
