use Rattle.std.proofs.Common.{◌≡◌, sym, ◌∙◌, subst, length, rules, arith, to_z, of_z}
use Rattle.std.proofs.Math.IntN.{pos, ◌+ℤ◌, ◌*ℤ◌}
use Rattle.std.specs.Prelude.{FitsSigned, ◌≤ℤ◌}
use Rattle.std.specs.Int.{w128}
use Rattle.std.proofs.lemmas.Int.{to_z-of_z}
use Rattle.math_cooper.specs.Line.{Meets}
use Rattle.math_cooper.specs.System.{Holds, dot, add_times}
use Rattle.cooper_solve.specs.Kinds.{kind_of}
use Rattle.lin_reduce.proofs.Adding.{added_at_least}
use Rattle.lin_reduce.proofs.certificate.Sum.plus.Goals as goal

pub returns : goal.returns
returns c = λ vs h g.
    let own = c.args.self in
    let other = c.condition.inside in
    let t = c.args.times in
    let ft : FitsSigned w128 t = search rules in
    let fk : FitsSigned w128 own.constant = search rules in
    let fm : FitsSigned w128 other.constant = search rules in
    let fs : FitsSigned w128 c.in_ok-plus_times-in-AtLeast.field-0 = search rules in
    let bt = to_z-of_z w128 t ft in
    let place = c.in_ok-plus_times-in-AtLeast.field-0 in
    let number : to_z w128 (of_z w128 place) ≡ own.constant +ℤ (t *ℤ other.constant) =
    to_z-of_z w128 place fs ∙ c.in_ok-plus_times-in-AtLeast.ensures {u = tt} ∙ (λ k. to_z-of_z w128 own.constant fk k +ℤ (bt k *ℤ to_z-of_z w128 other.constant fm k)) in
    let row : c.in_ok-added_row-in-AtLeast.field-0.items ≡ add_times t own.coefficients.items other.coefficients.items =
    c.in_ok-added_row-in-AtLeast.ensures {u = tt} ∙ (λ k. add_times (bt k) (c.deref.ensures.value k) (c.deref-in-AtLeast.ensures.value k)) in
    let same : length own.coefficients.items ≡ length other.coefficients.items = let e = c.if-len.false in omega arith in
    let held = subst (λ r. Meets (kind_of r) (dot other.coefficients.items vs +ℤ other.constant)) c.in-AtLeast.is (subst (Holds vs) (sym c.condition.view_is) g) in
    let sum = added_at_least vs own.coefficients.items other.coefficients.items t own.constant other.constant c.requires same h held in
    subst (λ f. pos 0 ≤ℤ (dot f vs +ℤ to_z w128 (of_z w128 place))) (sym row) (subst (λ z. pos 0 ≤ℤ (dot (add_times t own.coefficients.items other.coefficients.items) vs +ℤ z)) (sym number) sum)
