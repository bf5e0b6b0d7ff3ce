use Rattle.std.proofs.Common.{map, take}
use Rattle.fast_tree.specs.Signatures.{plain_signature}
use Rattle.fast_syntax.specs.Plain.{plain_rule}
use Rattle.sta_core.specs.Machine.{plain_rule as machine_rule}
use Rattle.fast_build.specs.Numbers.{number_in}
use Rattle.fast_build.specs.Rules.{AreRulesFor}
use Rattle.fast_build.proofs.rules.rules_for.Given as goal

abbrev pub invariant-rules : goal.invariant-rules
invariant-rules l =
    AreRulesFor (plain_signature l.signature) (number_in l.names.keys) (map machine_rule l.made.items) (map plain_rule (take l.rule-index l.rules))
