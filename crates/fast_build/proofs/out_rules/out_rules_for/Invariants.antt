use Rattle.std.proofs.Common.{map, take}
use Rattle.fast_tree.specs.Signatures.{plain_signature}
use Rattle.fast_syntax.specs.Plain.{plain_out_rule}
use Rattle.sttr_core.specs.Machine.{plain_out as machine_out}
use Rattle.fast_build.specs.Numbers.{number_in}
use Rattle.fast_build.specs.OutRules.{AreOutRulesFor}
use Rattle.fast_build.proofs.out_rules.out_rules_for.Given as goal

abbrev pub invariant-rules : goal.invariant-rules
invariant-rules l =
    AreOutRulesFor (plain_signature l.from) (plain_signature l.into) (number_in l.looks.keys) (number_in l.names.keys) (map machine_out l.made.items) (map plain_out_rule (take l.rule-index l.rules))
