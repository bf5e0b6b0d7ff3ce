use Rattle.model_grammar.specs.Printed.{rule}
use Rattle.fast_syntax.specs.Plain.{plain_rule}
use Rattle.fast_syntax.proofs.Characters.{if_ok}
use Rattle.fast_syntax.proofs.Appending.{adds_then}
use Rattle.fast_syntax.proofs.AppendingTerms.{adds_rules}
use Rattle.fast_syntax.proofs.print_items.append_lang.Goals as goal

pub returns : goal.returns
returns c = if_ok c.append_rules.result (λ x last. adds_then c.in_ok-append_typed.ensures (adds_then c.in_ok-blank.ensures (adds_rules rule plain_rule c.deref.result.now c.args.l.now.rules.items c.blank.new.self c.append_rules.new.page c.deref.ensures.value last))) c.append_rules.ensures
