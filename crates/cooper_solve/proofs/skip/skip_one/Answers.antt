use Rattle.std.proofs.Common.{◌≡◌, ap, sym, subst, ◌∙◌, rules, refl, to_z, of_z, ◌<◌, arith}
use Rattle.std.proofs.Math.IntN.{pos, ◌+ℤ◌, ◌*ℤ◌}
use Rattle.std.specs.Prelude.{unsigned_abs, FitsSigned, ◌<ℤ◌}
use Rattle.std.specs.Int.{w128, ◌∣◌}
use Rattle.std.specs.List.{All}
use Rattle.std.proofs.lemmas.Int.{to_z-of_z, ints}
use Rattle.math_cooper.specs.Line.{Divides, DividedBy, AtLeastZero}
use Rattle.math_cooper.specs.System.{Condition}
use Rattle.cooper_solve.specs.Kinds.{kind_of}
use Rattle.cooper_solve.proofs.Skipped.{below_fails, divisor_fails}
use Rattle.cooper_solve.proofs.skip.skip_one.Goals as goal

pub returns-else-not-is_nought-clause-none : goal.returns-else-not-is_nought-clause-none
returns-else-not-is_nought-clause-none c =
    let x = c.args.constraint.now in
    let fx : FitsSigned w128 c.constraint.inside.constant = search rules in
    let fr : FitsSigned w128 c.skip_below.result = search rules in
    let constant = to_z-of_z w128 c.constraint.inside.constant fx ∙ ap (λ (y : Condition). y.constant) c.constraint.view_is in
    let slope_is = to_z-of_z w128 c.args.slope c.ranges.slope in
    let kind : x.kind ≡ AtLeastZero = sym (ap (λ (y : Condition). y.kind) c.constraint.view_is) ∙ ap kind_of c.in-AtLeast.is in
    let row = c.deref.ensures.value ∙ ap (λ (y : Condition). y.coefficients) c.constraint.view_is in
    let nought : All (λ a. a ≡ pos 0) x.coefficients = subst (All (λ a. a ≡ pos 0)) row (c.if-not-is_nought.ensures {u = tt} refl) in
    λ s ws l. below_fails x c.args.slope s ws kind nought
    (subst (λ z. (z +ℤ (c.args.slope *ℤ pos s)) <ℤ pos 0) constant (subst (λ z. (to_z w128 (of_z w128 c.constraint.inside.constant) +ℤ (z *ℤ pos s)) <ℤ pos 0) slope_is (c.skip_below.ensures.none s (subst (λ z. pos s <ℤ z) (to_z-of_z w128 c.skip_below.result fr) l))))

pub returns-in-Divided-clause-none : goal.returns-in-Divided-clause-none
returns-in-Divided-clause-none c =
    let x = c.args.constraint.now in
    let d = c.in-Divided.divisor in
    let h = c.common_divisor-common.result in
    let fx : FitsSigned w128 c.constraint.inside.constant = search rules in
    let fr : FitsSigned w128 c.skip_undivided.result = search rules in
    let fd : FitsSigned w128 d = search rules in
    let fh : FitsSigned w128 h = search rules in
    let constant = to_z-of_z w128 c.constraint.inside.constant fx ∙ ap (λ (y : Condition). y.constant) c.constraint.view_is in
    let slope_is = to_z-of_z w128 c.args.slope c.ranges.slope in
    let kind : x.kind ≡ DividedBy (unsigned_abs d) = sym (ap (λ (y : Condition). y.kind) c.constraint.view_is) ∙ ap kind_of c.in-Divided.is in
    let row = c.deref-in-Divided.ensures.value ∙ ap (λ (y : Condition). y.coefficients) c.constraint.view_is in
    let common = c.common_divisor-common.ensures in
    let some : 0 < unsigned_abs h = let p = common.positive in omega (arith, ints) in
    let divides : unsigned_abs h ∣ unsigned_abs d = subst (λ z. unsigned_abs h ∣ unsigned_abs z) (to_z-of_z w128 d fd) common.divides in
    let each : All (λ a. unsigned_abs h ∣ unsigned_abs a) x.coefficients = subst (All (λ a. unsigned_abs h ∣ unsigned_abs a)) row common.each in
    λ s ws l. divisor_fails x (unsigned_abs d) (unsigned_abs h) c.args.slope s ws kind some divides each
    (λ e. c.skip_undivided.ensures.none s (subst (λ z. pos s <ℤ z) (to_z-of_z w128 c.skip_undivided.result fr) l)
    (subst (λ z. Divides (unsigned_abs z) (to_z w128 (of_z w128 c.constraint.inside.constant) +ℤ (to_z w128 (of_z w128 c.args.slope) *ℤ pos s))) (sym (to_z-of_z w128 h fh))
    (subst (λ z. Divides (unsigned_abs h) (z +ℤ (to_z w128 (of_z w128 c.args.slope) *ℤ pos s))) (sym constant) (subst (λ z. Divides (unsigned_abs h) (x.constant +ℤ (z *ℤ pos s))) (sym slope_is) e))))
