use Rattle.model_grammar.specs.Printed.{out_rule}
use Rattle.fast_syntax.specs.Plain.{plain_out_rule}
use Rattle.fast_syntax.proofs.Characters.{if_ok}
use Rattle.fast_syntax.proofs.Appending.{adds_then}
use Rattle.fast_syntax.proofs.AppendingTerms.{adds_rules}
use Rattle.fast_syntax.proofs.print_items.append_trans.Goals as goal

pub returns : goal.returns
returns c = if_ok c.append_rules.result (λ x last. adds_then c.in_ok-append_typed.ensures (adds_then c.in_ok-append_between.ensures (adds_then c.in_ok-text.ensures (adds_then c.in_ok-blank.ensures (adds_rules out_rule plain_out_rule c.deref.result.now c.args.t.now.rules.items c.blank.new.self c.append_rules.new.page c.deref.ensures.value last))))) c.append_rules.ensures
