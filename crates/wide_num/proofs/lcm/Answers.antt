use Rattle.std.proofs.Common.{sym, ◌∙◌, arith, subst}
use Rattle.std.specs.Prelude.{unsigned_abs, ◌*◌, ◌/◌}
use Rattle.std.proofs.lemmas.Int.{ints, to_z-of_z}
use Rattle.math_int.specs.Whole.{IsLcm}
use Rattle.wide_num.proofs.Answered.{lcm_answer}
use Rattle.math_int.proofs.Lcms.{lcm_is, gcd_some, lcm_zero}
use Rattle.wide_num.proofs.lcm.Goals as goal

pub returns-then-x-eq0 : goal.returns-then-x-eq0
returns-then-x-eq0 c =
    let fa = c.ranges.a in
    let e = simp to_z-of_z at c.unsigned_abs-x.ensures.value in
    (omega (arith, ints), subst (λ n. IsLcm n (unsigned_abs c.args.b) 0) (sym c.if-x-eq0.true ∙ e) (lcm_zero (unsigned_abs c.args.b)))

pub nonzero_div-x : goal.nonzero_div-x
nonzero_div-x c = gcd_some c.unsigned_abs-x.result c.unsigned_abs-y.result c.gcd_natural-g.result c.if-x-eq0.false c.gcd_natural-g.ensures

pub returns-in_err-l : goal.returns-in_err-l
returns-in_err-l c =
    let fa = c.ranges.a in
    let fb = c.ranges.b in
    let x = c.unsigned_abs-x.result in
    let y = c.unsigned_abs-y.result in
    let g = c.gcd_natural-g.result in
    let is = lcm_is x y g (gcd_some x y g c.if-x-eq0.false c.gcd_natural-g.ensures) c.gcd_natural-g.ensures in
    let big = c.in_err-l.ensures {u = tt} in
    lcm_answer c.args.a c.args.b x y (x / g * y) _ (simp to_z-of_z at c.unsigned_abs-x.ensures.value) (simp to_z-of_z at c.unsigned_abs-y.ensures.value) is
    (rw c.from_residual.ensures (omega (arith, big)))

pub returns : goal.returns
returns c =
    let fa = c.ranges.a in
    let fb = c.ranges.b in
    let x = c.unsigned_abs-x.result in
    let y = c.unsigned_abs-y.result in
    let g = c.gcd_natural-g.result in
    let is = lcm_is x y g (gcd_some x y g c.if-x-eq0.false c.gcd_natural-g.ensures) c.gcd_natural-g.ensures in
    let l = c.in_ok-l.ensures {u = tt} in
    lcm_answer c.args.a c.args.b x y c.in_ok-l.l _ (simp to_z-of_z at c.unsigned_abs-x.ensures.value) (simp to_z-of_z at c.unsigned_abs-y.ensures.value) (subst (IsLcm x y) (sym l.1) is) c.to_signed.ensures
