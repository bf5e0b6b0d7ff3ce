use Rattle.std.proofs.Common.{◌≡◌, ap, sym, ◌∙◌, subst, rules, to_z, of_z}
use Rattle.std.proofs.Math.IntN.{pos, ◌*ℤ◌}
use Rattle.std.specs.Prelude.{◌<ℤ◌, unsigned_abs, FitsSigned}
use Rattle.std.specs.Int.{w128}
use Rattle.std.proofs.lemmas.Int.{to_z-of_z, unsigned_abs-mul}
use Rattle.math_cooper.specs.Line.{DividedBy}
use Rattle.math_cooper.specs.System.{kind_times}
use Rattle.cooper_solve.specs.Kinds.{kind_of, IsPositiveRelation}
use Rattle.cooper_solve.proofs.Scaled.{positive_product, natural_is}
use Rattle.cooper_solve.proofs.scale.times_relation.Goals as goal

pub returns-in-None : goal.returns-in-None
returns-in-None c =
    let k = c.args.k in
    let d = c.in-Divided.divisor in
    let fd : FitsSigned w128 d = search rules in
    let p = positive_product k d c.requires.positive (subst IsPositiveRelation c.in-Divided.is c.requires.sound) in
    let wide = subst (λ z. FitsSigned w128 (k *ℤ z) → ⊥) (to_z-of_z w128 d fd) (subst (λ z. FitsSigned w128 (z *ℤ to_z w128 (of_z w128 d)) → ⊥) (to_z-of_z w128 k c.ranges.k) (c.in-None.ensures {u = tt})) in
    (unsigned_abs (k *ℤ d), ap (λ r. kind_times (unsigned_abs k) (kind_of r)) c.in-Divided.is ∙ ap DividedBy (sym (unsigned_abs-mul k d)), λ f. wide (subst (FitsSigned w128) (natural_is (k *ℤ d) p) f))

pub returns-in-Some : goal.returns-in-Some
returns-in-Some c =
    let k = c.args.k in
    let d = c.in-Divided.divisor in
    let fd : FitsSigned w128 d = search rules in
    let fp : FitsSigned w128 c.in-Some.product = search rules in
    let made = (c.in-Some.ensures {u = tt}).1 in
    let value : to_z w128 (of_z w128 c.in-Some.product) ≡ k *ℤ d = to_z-of_z w128 c.in-Some.product fp ∙ made ∙ (λ j. to_z-of_z w128 k c.ranges.k j *ℤ to_z-of_z w128 d fd j) in
    let p = positive_product k d c.requires.positive (subst IsPositiveRelation c.in-Divided.is c.requires.sound) in (
      ap (λ z. DividedBy (unsigned_abs z)) value ∙ ap DividedBy (unsigned_abs-mul k d) ∙ ap (λ r. kind_times (unsigned_abs k) (kind_of r)) (sym c.in-Divided.is),
      subst (λ z. pos 0 <ℤ z) (sym value) p,
    )
