use Rattle.std.proofs.Common.{◌≡◌, [], ◌∷◌, ◌++◌, ap, sym, ◌∙◌, subst, Vec, Global}
use Rattle.model_chain.specs.Literals.{Literal, compare_holds}
use Rattle.label_core.specs.declared.theory.Lit.{Lit}
use Rattle.lin_solve.specs.declared.compare.Compare.{Compare}
use Rattle.lin_solve.proofs.Gapped.{literal_here}
use Rattle.lin_solve.proofs.Seeking.{pushed_hold, sided_here}
use Rattle.lin_solve.proofs.found.sided.Goals.{then-i-place+in_ok-less+in_ok-push, else-i-place+in_ok-copy_literal+in_ok-push-2}
use Rattle.lin_solve.proofs.found.sided.Goals as goal

pub loop-i-preserved : goal.loop-i-preserved
loop-i-preserved c = λ us h side.
    let ls = c.args.literals.now in
    let i = c.loop-i.i in
    let out = c.loop-i.out.items in
    let old = c.loop-i.invariant us h side in
    elim c.if-i-place.branch [
      | then-i-place+in_ok-less+in_ok-push w ↦
          let x = w.in_ok-less.field-0 in
          let own = sided_here ls c.args.place i w.index-literals-i.result c.args.turned us c.loop-i-test.true w.if-i-place.true side in
          let is = ap (λ (v : Vec (Lit Compare) Global). v.items) w.out-is ∙ (w.in_ok-push.ensures {u = tt}).items in
          pushed_hold out c.if-i-place.out.items x us is (subst (λ (l : Literal). compare_holds l.compare us ≡ l.positive) (sym (w.in_ok-less.ensures {u = tt})) own) old
      | else-i-place+in_ok-copy_literal+in_ok-push-2 w ↦
          let x = w.in_ok-copy_literal.field-0 in
          let y = w.index-literals-i-else-i-place.result in
          let own = literal_here ls i y us w.index-literals-i-else-i-place.is c.loop-i-test.true h in
          let is = ap (λ (v : Vec (Lit Compare) Global). v.items) w.out-is ∙ (w.in_ok-push-2.ensures {u = tt}).items ∙ ap (λ z. out ++ z ∷ []) (w.in_ok-copy_literal.ensures {u = tt}) in
          pushed_hold out c.if-i-place.out.items y us is own old
    ]
