use Rattle.std.proofs.Common.{refl, subst, sym, ap, List, inl, inr}
use Rattle.model_grammar.specs.Nesting.{Mark, marked}
use Rattle.text_reader.specs.Counts.{Counts}
use Rattle.text_reader.proofs.nesting.behind.Goals as goal

pub returns-in-Where-clause-counts : goal.returns-in-Where-clause-counts
returns-in-Where-clause-counts c = λ marks counts. subst (λ (l : List Mark). Counts c.outside.result l) (elim c.in-Where.is [ inl is ↦ ap (λ w. marked w marks) (sym is) | inr is ↦ ap (λ w. marked w marks) (sym is) ]) (c.outside.ensures.parts refl marks)
