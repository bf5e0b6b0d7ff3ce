use Rattle.std.proofs.Common.{◌≡◌, ap, sym, ◌∙◌, arith, subst, unsigned_abs, ◌≤◌, to_z, of_z, lit≤, ◌^◌}
use Rattle.std.specs.Prelude.{FitsSigned, ◌*ℤ◌}
use Rattle.std.specs.Int.{w64, w128}
use Rattle.std.proofs.lemmas.Int.{ints, to_z-of_z}
use Rattle.lin_form.proofs.Evaluating.{small_product, fits_128}
use Rattle.lin_form.proofs.value.remainder_value.Goals as goal

pub returns-clause-small : goal.returns-clause-small
returns-clause-small c =
    let low = c.rem.ensures.low in
    let high = c.rem.ensures.high in
    let some = c.requires.some in
    let few = c.requires.few in
    let a : unsigned_abs c.args.coefficient ≤ 2 ^ 31 = omega arith in
    let b : unsigned_abs c.rem.result ≤ 2 ^ 12 = omega (arith, ints) in
    let p : unsigned_abs (c.args.coefficient *ℤ c.rem.result) ≤ 2 ^ 43 = small_product c.args.coefficient c.rem.result (2 ^ 31) (2 ^ 12) (2 ^ 43) a b (lit≤ tt) in
    let fa = c.ranges.coefficient in
    let fr : FitsSigned w128 c.rem.result = fits_128 c.rem.result (omega arith) in
    let one : to_z w128 (of_z w128 (to_z w64 (of_z w64 c.args.coefficient))) ≡ c.args.coefficient = omega (arith, ints) in
    let two = to_z-of_z w128 c.rem.result fr in
    subst (λ z. unsigned_abs z ≤ 2 ^ 43) (sym (ap (λ z. to_z w128 (of_z w128 z)) (λ i. one i *ℤ two i) ∙ to_z-of_z w128 (c.args.coefficient *ℤ c.rem.result) (fits_128 (c.args.coefficient *ℤ c.rem.result) (omega arith)))) p
