use Rattle.std.proofs.Common.{ap, subst, ◌∙◌, rules, take, to_z, of_z}
use Rattle.std.proofs.Math.IntN.{◌-ℤ◌}
use Rattle.std.specs.Prelude.{FitsSigned}
use Rattle.std.specs.Int.{w128}
use Rattle.std.proofs.lemmas.Int.{to_z-of_z}
use Rattle.math_cooper.specs.System.{Condition}
use Rattle.math_cooper.specs.Puts.{IsWide}
use Rattle.cooper_solve.proofs.Putting.{high_is, high_wide}
use Rattle.cooper_solve.proofs.put.below.Goals as goal

pub returns-in_default : goal.returns-in_default
returns-in_default c =
    let fx : FitsSigned w128 c.constraint.inside.constant = search rules in
    let same = to_z-of_z w128 c.constraint.inside.constant fx ∙ ap (λ (y : Condition). y.constant) c.constraint.view_is in
    high_wide c.args.last c.args.constraint.now c.args.offset c.requires.natural
    (subst (λ z. IsWide (z -ℤ c.args.offset)) same (subst (λ z. IsWide (to_z w128 (of_z w128 c.constraint.inside.constant) -ℤ z)) (to_z-of_z w128 c.args.offset c.ranges.offset) (c.in_default.ensures {u = tt})))

pub returns : goal.returns
returns c =
    let fx : FitsSigned w128 c.constraint.inside.constant = search rules in
    let fs : FitsSigned w128 c.in-Some.constant = search rules in
    let same = to_z-of_z w128 c.constraint.inside.constant fx ∙ ap (λ (y : Condition). y.constant) c.constraint.view_is in
    high_is c.args.last c.args.constraint.now c.args.offset (record { constant = to_z w128 (of_z w128 c.in-Some.constant); coefficients = c.in_ok-coefficients.coefficients.items }) c.requires.natural
    (to_z-of_z w128 c.in-Some.constant fs ∙ (c.in-Some.ensures {u = tt}).1 ∙ (λ j. same j -ℤ to_z-of_z w128 c.args.offset c.ranges.offset j))
    ((c.in_ok-coefficients.ensures {u = tt}).items ∙ ap (take c.args.last) (c.deref.ensures.value ∙ ap (λ (y : Condition). y.coefficients) c.constraint.view_is))
