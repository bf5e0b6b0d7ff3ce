use Rattle.std.proofs.Common.{◌≡◌, sym, ◌∙◌, rules, get_or, ◌++◌, ◌∷◌, [], to_z, of_z, arith}
use Rattle.std.proofs.Math.IntN.{pos, ◌+ℤ◌, ◌*ℤ◌}
use Rattle.std.specs.Prelude.{FitsSigned}
use Rattle.std.specs.Int.{w128}
use Rattle.std.proofs.lemmas.Int.{to_z-of_z}
use Rattle.cooper_solve.specs.Views.{one}
use Rattle.cooper_solve.proofs.Putting.{sum_none, sum_more}
use Rattle.cooper_solve.proofs.put.plus.Goals as goal

pub loop-i-init : goal.loop-i-init
loop-i-init c = c.new-out.ensures.items ∙ sum_none (one c.args.minus) [] []

pub loop-i-preserved : goal.loop-i-preserved
loop-i-preserved c =
    let f = c.args.f.now in
    let g = c.args.g.now in
    let i = c.loop-i.i in
    let push = (c.in_ok-push.ensures {u = tt}).items in
    let sum = (c.in-Some.ensures {u = tt}).1 in
    let ff : FitsSigned w128 (get_or f i (pos 0)) = search rules in
    let fg : FitsSigned w128 (get_or g i (pos 0)) = search rules in
    let fs : FitsSigned w128 c.in-Some.sum = search rules in
    let number : to_z w128 (of_z w128 c.in-Some.sum) ≡ get_or f i (pos 0) +ℤ (one c.args.minus *ℤ get_or g i (pos 0)) =
    to_z-of_z w128 c.in-Some.sum fs ∙ sum ∙ (λ k. to_z-of_z w128 (get_or f i (pos 0)) ff k +ℤ (one c.args.minus *ℤ to_z-of_z w128 (get_or g i (pos 0)) fg k)) in
    push ∙ (λ k. c.loop-i.invariant k ++ number k ∷ []) ∙ sym (sum_more (one c.args.minus) f g i (omega arith) (omega arith))
