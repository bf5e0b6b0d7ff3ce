use Rattle.std.proofs.Common.{◌≡◌, [], ◌∷◌, ◌++◌, ap, sym, ◌∙◌, subst, Vec, Global}
use Rattle.model_chain.specs.Literals.{HoldsAll, count_sides}
use Rattle.label_core.specs.declared.theory.Lit.{Lit}
use Rattle.lin_solve.specs.declared.compare.Compare.{Compare}
use Rattle.lin_solve.specs.Plain.{plain_literals}
use Rattle.lin_solve.proofs.Gapped.{literal_here}
use Rattle.lin_solve.proofs.Seeking.{pushed_hold, pushed_none}
use Rattle.lin_solve.proofs.found.sideless.Goals.{then-not-needs_side+in_ok-copy_literal+in_ok-push, else-not-needs_side}
use Rattle.lin_solve.proofs.found.sideless.Goals as goal

pub loop-literal-preserved : goal.loop-literal-preserved
loop-literal-preserved c =
    let ls = c.args.literals.now in
    let i = c.loop-literal.literal-index in
    let y = c.literal-item.result in
    let out = c.loop-literal.out.items in
    let inv = c.loop-literal.invariant in
    elim c.if-not-needs_side.branch [
      | then-not-needs_side+in_ok-copy_literal+in_ok-push w ↦
          let is : c.if-not-needs_side.out.items ≡ out ++ y ∷ [] = ap (λ (v : Vec (Lit Compare) Global). v.items) w.out-is ∙ (w.in_ok-push.ensures {u = tt}).items ∙ ap (λ z. out ++ z ∷ []) (w.in_ok-copy_literal.ensures {u = tt}) in
          record {
            none = pushed_none out c.if-not-needs_side.out.items y is (sym c.needs_side.ensures ∙ w.if-not-needs_side.true) inv.none;
            hold = λ us h. pushed_hold out c.if-not-needs_side.out.items y us is (literal_here ls i y us c.literal-item.is c.loop-literal-test.true h) (inv.hold us h);
          }
      | else-not-needs_side w ↦
          record {
            none = ap (λ (v : Vec (Lit Compare) Global). count_sides (plain_literals v.items)) w.out-is ∙ inv.none;
            hold = λ us h. subst (λ (v : Vec (Lit Compare) Global). HoldsAll (plain_literals v.items) us) (sym w.out-is) (inv.hold us h);
          }
    ]
