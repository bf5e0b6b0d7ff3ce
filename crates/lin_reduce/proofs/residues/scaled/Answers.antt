use Rattle.std.proofs.Common.{◌≡◌, refl, ap, sym, ◌∙◌, subst, rules, arith, get_or, set, length, ◌<◌}
use Rattle.std.proofs.Math.IntN.{pos, ◌+ℤ◌, ◌*ℤ◌}
use Rattle.std.specs.Prelude.{FitsSigned}
use Rattle.std.specs.Int.{w128}
use Rattle.std.proofs.lemmas.Int.{to_z-of_z}
use Rattle.std.proofs.lemmas.List.{get_or_read_under}
use Rattle.math_cooper.specs.System.{Condition, Holds}
use Rattle.cooper_solve.specs.Kinds.{kind_of}
use Rattle.lin_reduce.proofs.Parting.{holds_part}
use Rattle.lin_reduce.proofs.residues.scaled.Goals as goal

pub returns : goal.returns
returns c = λ vs w part h.
    let x : Condition = record { kind = kind_of c.condition.inside.relation; constant = c.condition.inside.constant; coefficients = c.condition.inside.coefficients.items } in
    let fx : FitsSigned w128 c.condition.inside.constant = search rules in
    let ft : FitsSigned w128 c.args.scale.times = search rules in
    let fr : FitsSigned w128 c.args.scale.rest = search rules in
    let fo : FitsSigned w128 c.index-own.result.now = search rules in
    let fk : FitsSigned w128 c.in_ok-constant.constant = search rules in
    let fp : FitsSigned w128 c.in-Some.product = search rules in
    let row : c.in_ok-coefficients.coefficients.items ≡ x.coefficients = (c.in_ok-coefficients.ensures {u = tt}).items ∙ c.deref.ensures.value in
    let low : c.args.scale.of < length x.coefficients = subst (λ xs. c.args.scale.of < length xs) row (let n = c.len.ensures in let l = c.if-scale-len.false in omega arith) in
    let own : c.index-own.result.now ≡ get_or x.coefficients c.args.scale.of (pos 0) = get_or_read_under x.coefficients c.args.scale.of (length x.coefficients) c.index-own.result.now (pos 0) (c.index-own.ensures ∙ ap (λ xs. get_or xs c.args.scale.of c.index-own.result.now) row) low refl in
    let constant = simp to_z-of_z at (c.in_ok-constant.ensures {u = tt}) in
    let product = simp to_z-of_z at (c.in-Some.ensures {u = tt}) in
    let back = to_z-of_z w128 c.in-Some.product fp ∙ product.1 ∙ ap (λ a. a *ℤ c.args.scale.times) own in
    holds_part x vs c.args.scale.of c.args.scale.times c.args.scale.rest w _ _ low part.0 part.1 (to_z-of_z w128 c.in_ok-constant.constant fk ∙ constant ∙ ap (λ a. c.condition.inside.constant +ℤ (a *ℤ c.args.scale.rest)) own) (λ i. set (row i) c.args.scale.of (back i)) (subst (Holds vs) (sym c.condition.view_is) h)
