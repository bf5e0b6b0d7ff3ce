use Rattle.std.proofs.Common.{◌∷◌, [], ◌++◌, sym, subst}
use Rattle.model_program.specs.declared.Word.TheVariants.{SquareOpen, SquareClose}
use Rattle.model_grammar.specs.Printed.{token, expression}
use Rattle.fast_syntax.specs.Adds.{Adds}
use Rattle.fast_syntax.specs.Plain.{plain_expr}
use Rattle.fast_syntax.proofs.Characters.{if_ok}
use Rattle.fast_syntax.proofs.Appending.{adds_then}
use Rattle.fast_syntax.proofs.AppendingTerms.{with_commas_of}
use Rattle.fast_syntax.proofs.print_terms.append_labels.Goals as goal

pub returns : goal.returns
returns c = if_ok c.word-2.result (λ x last. subst (λ l. Adds c.args.page.now c.word-2.new.self (token SquareOpen ∷ (l ++ token SquareClose ∷ []))) (sym (with_commas_of expression plain_expr c.args.labels.now)) (adds_then c.in_ok-word.ensures (adds_then c.in_ok-append_with_commas.ensures last))) c.word-2.ensures
