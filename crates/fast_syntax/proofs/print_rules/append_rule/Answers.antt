use Rattle.std.proofs.Common.{map, subst}
use Rattle.model_grammar.specs.Printed.{demands}
use Rattle.fast_syntax.specs.Adds.{Adds}
use Rattle.fast_syntax.specs.View.{plain_demand}
use Rattle.fast_syntax.proofs.Characters.{if_ok}
use Rattle.fast_syntax.proofs.Appending.{adds_then}
use Rattle.fast_syntax.proofs.AppendingTerms.{adds_names}
use Rattle.fast_syntax.proofs.print_rules.append_rule.Goals as goal

pub returns : goal.returns
returns c =
    let vars = adds_names c.deref.result.now c.args.item.now.vars.items c.word.new.self c.append_with_commas.new.page c.deref.ensures.value c.in_ok-append_with_commas.ensures in
    if_ok c.append_given.result (λ x last. adds_then c.in_ok-text.ensures (adds_then c.in_ok-word.ensures (adds_then (adds_then vars c.in_ok-word-2.ensures)
    (adds_then c.in_ok-append_guard.ensures (subst (λ l. Adds c.append_guard.new.page c.append_given.new.page (demands (map plain_demand l))) c.deref-2.ensures.value last))))) c.append_given.ensures
