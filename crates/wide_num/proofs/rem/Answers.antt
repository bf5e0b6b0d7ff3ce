use Rattle.std.proofs.Common.{ap, sym, ◌∙◌, arith, rules}
use Rattle.std.specs.Prelude.{◌+ℤ◌, ◌*ℤ◌, FitsSigned}
use Rattle.std.specs.Int.{w128, int_div_euclid}
use Rattle.std.proofs.lemmas.Int.{ints, to_z-of_z}
use Rattle.math_int.proofs.Floors.{euclid}
use Rattle.wide_num.proofs.rem.Goals as goal

pub returns-clause-exact : goal.returns-clause-exact
returns-clause-exact c =
    let fits : FitsSigned w128 c.rem_euclid.result = search rules in
    let fa = c.ranges.a in
    let fk = c.ranges.k in
    let value = simp to_z-of_z at c.rem_euclid.ensures.value in
    let back = to_z-of_z w128 c.rem_euclid.result fits in
    (int_div_euclid c.args.a c.args.k, euclid c.args.a c.args.k (λ e. omega (arith, ints)) ∙ ap (λ z. (c.args.k *ℤ int_div_euclid c.args.a c.args.k) +ℤ z) (sym (back ∙ value)))
