use Rattle.std.proofs.Common.{◌≡◌, true, ap, sym, subst, ◌∙◌, rules, to_z, of_z, arith}
use Rattle.std.proofs.Math.IntN.{pos, ◌+ℤ◌, ◌*ℤ◌}
use Rattle.std.specs.Prelude.{unsigned_abs, FitsSigned, int_le, ◌<ℤ◌}
use Rattle.std.specs.Int.{w128}
use Rattle.std.proofs.lemmas.Int.{to_z-of_z, ints}
use Rattle.math_cooper.specs.Line.{AtLeastZero, DividedBy}
use Rattle.math_cooper.specs.System.{Condition}
use Rattle.cooper_solve.specs.Kinds.{kind_of, IsPositiveRelation}
use Rattle.cooper_solve.proofs.Scaled.{natural_is}
use Rattle.cooper_solve.proofs.Closed.{met_at_least, met_divided, bits_zero, zero_bits}
use Rattle.cooper_solve.proofs.search.is_met.Goals as goal

pub returns-in-AtLeast : goal.returns-in-AtLeast
returns-in-AtLeast c =
    let x = c.args.constraint.now in
    let fx : FitsSigned w128 c.constraint.inside.constant = search rules in
    let kind : x.kind ≡ AtLeastZero = sym (ap (λ (y : Condition). y.kind) c.constraint.view_is) ∙ ap kind_of c.in-AtLeast.is in
    let m = met_at_least x c.constraint.inside.constant kind (sym (ap (λ (y : Condition). y.constant) c.constraint.view_is)) in
    (λ t. m.1 (omega (arith, ints, t)), λ h. let p = m.0 h in let e : true ≡ int_le (pos 0) (to_z w128 (of_z w128 c.constraint.inside.constant)) = omega (arith, ints) in sym e)

pub returns-in-Divided : goal.returns-in-Divided
returns-in-Divided c =
    let x = c.args.constraint.now in
    let d = c.in-Divided.divisor in
    let fx : FitsSigned w128 c.constraint.inside.constant = search rules in
    let fd : FitsSigned w128 d = search rules in
    let fr : FitsSigned w128 c.rem.result = search rules in
    let exact = simp to_z-of_z at c.rem.ensures.exact in
    let high = simp to_z-of_z at c.rem.ensures.high in
    let some : pos 0 <ℤ d = subst IsPositiveRelation c.in-Divided.is c.constraint.invariant in
    let kind : x.kind ≡ DividedBy (unsigned_abs d) = sym (ap (λ (y : Condition). y.kind) c.constraint.view_is) ∙ ap kind_of c.in-Divided.is in
    let whole = natural_is d some in
    let m = met_divided x (unsigned_abs d) c.constraint.inside.constant exact.0 c.rem.result kind (sym (ap (λ (y : Condition). y.constant) c.constraint.view_is)) (exact.1 ∙ ap (λ e. (e *ℤ exact.0) +ℤ c.rem.result) (sym whole)) c.rem.ensures.low (subst (λ e. c.rem.result <ℤ e) (sym whole) high) in
    (λ t. m.1 (bits_zero c.rem.result c.rem.ensures.low t), λ h. zero_bits c.rem.result (m.0 h))
