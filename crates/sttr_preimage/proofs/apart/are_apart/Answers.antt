use Rattle.std.proofs.Common.{[], ◌∷◌, ◌++◌, ap, subst, ◌∙◌}
use Rattle.label_split.specs.Search.{DecidesEach}
use Rattle.sttr_preimage.proofs.Apartness.{apart_of}
use Rattle.sttr_preimage.proofs.apart.are_apart.Goals as goal

pub returns-in-Unsat : goal.returns-in-Unsat
returns-in-Unsat g c = λ yes.
    let T = g.T.Theory in
    let N = T.meaning c.args.theory.now in
    let both = c.deref.ensures.value ∙ c.in_ok-push-2.ensures.items ∙ ap (λ l. l ++ c.in_ok-copy-2.field-0 ∷ []) (c.in_ok-push.ensures.items ∙ ap (λ l. l ++ c.in_ok-copy.field-0 ∷ []) c.new-guards.ensures.items) in
    apart_of T.atom_holds N.has c.deref.result.now c.in_ok-copy.field-0 c.in_ok-copy-2.field-0 both _ _ c.in_ok-copy.ensures c.in_ok-copy-2.ensures (subst (DecidesEach N c.deref.result.now) c.in-Unsat.is c.in_ok-find.ensures)
