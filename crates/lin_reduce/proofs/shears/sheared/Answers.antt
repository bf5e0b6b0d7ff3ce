use Rattle.std.proofs.Common.{◌≡◌, refl, ap, sym, ◌∙◌, subst, rules, arith, get_or, set, length, ◌<◌}
use Rattle.std.proofs.Math.IntN.{pos, ◌+ℤ◌, ◌*ℤ◌}
use Rattle.std.specs.Prelude.{FitsSigned}
use Rattle.std.specs.Int.{w128}
use Rattle.std.proofs.lemmas.Int.{to_z-of_z}
use Rattle.std.proofs.lemmas.List.{get_or_read_under}
use Rattle.math_cooper.specs.System.{Condition, Holds}
use Rattle.cooper_solve.specs.Kinds.{kind_of}
use Rattle.lin_reduce.proofs.Parting.{holds_sheared}
use Rattle.lin_reduce.proofs.shears.sheared.Goals as goal

pub returns : goal.returns
returns c = λ vs w part h.
    let x : Condition = record { kind = kind_of c.condition.inside.relation; constant = c.condition.inside.constant; coefficients = c.condition.inside.coefficients.items } in
    let s = c.args.shear in
    let fx : FitsSigned w128 c.condition.inside.constant = search rules in
    let ft : FitsSigned w128 s.times = search rules in
    let fo : FitsSigned w128 c.index-own.result.now = search rules in
    let fb : FitsSigned w128 c.index-other.result.now = search rules in
    let fs : FitsSigned w128 c.in_ok-coefficients.field-0 = search rules in
    let low : s.of < length x.coefficients = (let n = c.len.ensures in let l = c.if-shear-len.false in omega arith) in
    let high : s.by < length x.coefficients = (let n = c.len-else-shear-len.ensures in let l = c.if-shear-len-2.false in omega arith) in
    let own : c.index-own.result.now ≡ get_or x.coefficients s.of (pos 0) = get_or_read_under x.coefficients s.of (length x.coefficients) c.index-own.result.now (pos 0) c.index-own.ensures low refl in
    let other : c.index-other.result.now ≡ get_or x.coefficients s.by (pos 0) = get_or_read_under x.coefficients s.by (length x.coefficients) c.index-other.result.now (pos 0) c.index-other.ensures high refl in
    let sum = simp to_z-of_z at (c.in_ok-coefficients.ensures {u = tt}) in
    let back = to_z-of_z w128 c.in_ok-coefficients.field-0 fs ∙ sum ∙ (λ i. other i +ℤ (own i *ℤ s.times)) in
    holds_sheared x vs s.of s.by s.times w _ _ low high (λ e. c.if-shear.false (sym e)) part.0 part.1 part.2 (λ i. set x.coefficients s.by (back i)) (to_z-of_z w128 c.condition.inside.constant fx) (subst (Holds vs) (sym c.condition.view_is) h)
