use Rattle.std.proofs.Common.{◌≡◌, ◌≤◌, sym, ◌∙◌, rules, get_or, length, ◌++◌, ◌∷◌, [], to_z, of_z, arith}
use Rattle.std.proofs.Math.IntN.{pos, ◌+ℤ◌, ◌*ℤ◌}
use Rattle.std.specs.Prelude.{FitsSigned}
use Rattle.std.specs.Int.{w128}
use Rattle.std.proofs.lemmas.Int.{to_z-of_z}
use Rattle.std.proofs.lemmas.List.{take_all}
use Rattle.math_cooper.specs.System.{add_times}
use Rattle.cooper_solve.proofs.Putting.{sum_none, sum_more}
use Rattle.lin_reduce.proofs.certificate.added_row.Goals as goal

pub loop-i-init : goal.loop-i-init
loop-i-init c = c.new-out.ensures.items ∙ sum_none (to_z w128 (of_z w128 c.args.times)) [] []

pub loop-i-preserved : goal.loop-i-preserved
loop-i-preserved c =
    let f = c.args.row.now in
    let g = c.args.other.now in
    let i = c.loop-i.i in
    let t = to_z w128 (of_z w128 c.args.times) in
    let ff : FitsSigned w128 (get_or f i (pos 0)) = search rules in
    let fg : FitsSigned w128 (get_or g i (pos 0)) = search rules in
    let fs : FitsSigned w128 c.in_ok-plus_times.field-0 = search rules in
    let number : to_z w128 (of_z w128 c.in_ok-plus_times.field-0) ≡ get_or f i (pos 0) +ℤ (t *ℤ get_or g i (pos 0)) =
    to_z-of_z w128 c.in_ok-plus_times.field-0 fs ∙ c.in_ok-plus_times.ensures {u = tt} ∙ (λ k. to_z-of_z w128 (get_or f i (pos 0)) ff k +ℤ (t *ℤ to_z-of_z w128 (get_or g i (pos 0)) fg k)) in
    (c.in_ok-push.ensures {u = tt}).items ∙ (λ k. c.loop-i.invariant k ++ number k ∷ []) ∙ sym (sum_more t f g i (omega arith) (omega arith))

pub returns : goal.returns
returns c =
    let f = c.args.row.now in
    let g = c.args.other.now in
    let ft : FitsSigned w128 c.args.times = search rules in
    let i = c.loop-i.i in
    let all : length f ≤ i = c.loop-i-test.false in
    let same : length g ≤ i = omega arith in
    c.loop-i.invariant ∙ (λ k. add_times (to_z-of_z w128 c.args.times ft k) (take_all i f all k) (take_all i g same k))
