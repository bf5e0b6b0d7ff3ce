use Rattle.std.proofs.Common.{map, subst}
use Rattle.model_grammar.specs.Printed.{in_braces, with_commas, ctor_of}
use Rattle.fast_syntax.specs.Adds.{Adds}
use Rattle.fast_syntax.specs.View.{plain_ctor}
use Rattle.fast_syntax.proofs.Characters.{if_ok}
use Rattle.fast_syntax.proofs.Appending.{adds_then}
use Rattle.fast_syntax.proofs.AppendingTerms.{adds_fields}
use Rattle.fast_syntax.proofs.print_items.append_type.Goals as goal

pub returns : goal.returns
returns c =
    let fields = adds_fields c.deref.result.now c.args.t.now.fields.items c.word.new.self c.append_with_commas.new.page c.deref.ensures.value c.in_ok-append_with_commas.ensures in
    if_ok c.append_ctors.result (λ x last. adds_then c.in_ok-text.ensures (adds_then c.in_ok-blank.ensures (adds_then c.in_ok-word.ensures (adds_then fields (adds_then c.in_ok-word-2.ensures (adds_then c.in_ok-blank-2.ensures
    (subst (λ l. Adds c.blank-2.new.self c.append_ctors.new.page (in_braces (with_commas ctor_of (map plain_ctor l)))) c.deref-2.ensures.value last))))))) c.append_ctors.ensures
