use Rattle.std.proofs.Common.{sym, subst}
use Rattle.model_grammar.specs.Printed.{in_braces, ctor_of}
use Rattle.fast_syntax.specs.Adds.{Adds}
use Rattle.fast_syntax.specs.View.{plain_ctor}
use Rattle.fast_syntax.proofs.Characters.{if_ok}
use Rattle.fast_syntax.proofs.Appending.{adds_then}
use Rattle.fast_syntax.proofs.AppendingTerms.{with_commas_of}
use Rattle.fast_syntax.proofs.print_items.append_ctors.Goals as goal

pub returns : goal.returns
returns c = if_ok c.word.result (λ x last. subst (λ ps. Adds c.args.page.now c.word.new.self (in_braces ps)) (sym (with_commas_of ctor_of plain_ctor c.args.ctors.now)) (adds_then c.in_ok-append_keyword.ensures (adds_then c.in_ok-append_with_commas.ensures (adds_then c.in_ok-blank.ensures last)))) c.word.ensures
