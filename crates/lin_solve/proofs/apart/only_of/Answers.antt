use Rattle.std.proofs.Common.{◌≡◌, [], ◌∷◌, ◌++◌, ap, sym, ◌∙◌, subst, Vec, Global}
use Rattle.model_chain.specs.Literals.{HoldsAll}
use Rattle.label_core.specs.declared.theory.Lit.{Lit}
use Rattle.lin_solve.specs.declared.compare.Compare.{Compare}
use Rattle.lin_solve.specs.Plain.{plain_literals}
use Rattle.lin_solve.proofs.Gapped.{literal_here}
use Rattle.lin_solve.proofs.Seeking.{pushed_hold}
use Rattle.lin_solve.proofs.apart.only_of.Goals.{then-are_among+in_ok-copy_literal+in_ok-push, else-are_among}
use Rattle.lin_solve.proofs.apart.only_of.Goals as goal

pub loop-place-preserved : goal.loop-place-preserved
loop-place-preserved c = λ us eight h.
    let out = c.loop-place.out.items in
    let old = c.loop-place.invariant us eight h in
    elim c.if-are_among.branch [
      | then-are_among+in_ok-copy_literal+in_ok-push w ↦
          let y = w.index-literals-place.result in
          let is : c.if-are_among.out.items ≡ out ++ y ∷ [] = ap (λ (v : Vec (Lit Compare) Global). v.items) w.out-is ∙ (w.in_ok-push.ensures {u = tt}).items ∙ ap (λ z. out ++ z ∷ []) (w.in_ok-copy_literal.ensures {u = tt}) in
          pushed_hold out c.if-are_among.out.items y us is (literal_here c.args.literals.now c.loop-place.place y us w.index-literals-place.is c.loop-place-test.true h) old
      | else-are_among w ↦ subst (λ (v : Vec (Lit Compare) Global). HoldsAll (plain_literals v.items) us) (sym w.out-is) old
    ]
