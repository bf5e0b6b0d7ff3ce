use Rattle.fast_syntax.proofs.Characters.{if_ok}
use Rattle.fast_syntax.proofs.Appending.{adds_then}
use Rattle.fast_syntax.proofs.print_rules.OutRulePrinted.append.Goals as goal

pub returns : goal.returns
returns c = if_ok c.append_output.result (λ x last. adds_then c.in_ok-append_rule.ensures (adds_then c.in_ok-blank.ensures (adds_then c.in_ok-word.ensures (adds_then c.in_ok-blank-2.ensures last)))) c.append_output.ensures
