use Rattle.std.proofs.Common.{◌≡◌, sym, ◌∙◌, subst, map, length, rules, arith}
use Rattle.std.specs.Prelude.{pos, ◌+ℤ◌, ◌*ℤ◌, FitsSigned}
use Rattle.std.specs.Int.{w128}
use Rattle.std.proofs.lemmas.Int.{to_z-of_z}
use Rattle.math_cooper.specs.System.{Affine, add_times}
use Rattle.cooper_solve.specs.Sums.{IsAtLeast}
use Rattle.cooper_solve.proofs.Summing.{mixed_at_least}
use Rattle.cooper_solve.proofs.hopeless.mixed.Goals as goal

pub returns : goal.returns
returns c = λ vs h k.
    let a = c.args.a in
    let b = c.args.b in
    let f : Affine = record { constant = c.f.inside.constant; coefficients = c.f.inside.coefficients.items } in
    let g : Affine = record { constant = c.g.inside.constant; coefficients = c.g.inside.coefficients.items } in
    let ba = to_z-of_z w128 a c.ranges.a in
    let bb = to_z-of_z w128 b c.ranges.b in
    let ff : FitsSigned w128 f.constant = search rules in
    let fg : FitsSigned w128 g.constant = search rules in
    let fr : FitsSigned w128 c.in-Some.constant = search rules in
    let constant = to_z-of_z w128 c.in-Some.constant fr ∙ c.in-Some.ensures {u = tt} ∙ (λ i. (ba i *ℤ to_z-of_z w128 f.constant ff i) +ℤ (bb i *ℤ to_z-of_z w128 g.constant fg i)) in
    let row = c.in_ok-coefficients.ensures {u = tt} ∙ (λ i. add_times (pos 1) (map (λ x. ba i *ℤ x) (c.deref.ensures.value i)) (map (λ x. bb i *ℤ x) (c.deref-2.ensures.value i))) in
    let same : length f.coefficients ≡ length g.coefficients = let e = c.if-len.false in omega arith in
    let sum = mixed_at_least vs a b f g c.requires.a c.requires.b same (subst (IsAtLeast vs) (sym c.f.view_is) h) (subst (IsAtLeast vs) (sym c.g.view_is) k) in
    subst (IsAtLeast vs) (λ i. record { constant = sym constant i; coefficients = sym row i }) sum
