use Rattle.std.proofs.Common.{◌≡◌, ap, sym, ◌∙◌, arith, rules, add-one, get_or, to_z, of_z}
use Rattle.std.proofs.Math.ListN.{set}
use Rattle.std.specs.Prelude.{ℤ, pos, FitsSigned}
use Rattle.std.specs.Int.{w128, int_rem_euclid}
use Rattle.std.proofs.lemmas.Int.{ints, to_z-of_z}
use Rattle.model_form.specs.Form.{modulo}
use Rattle.lin_form.proofs.Reducing.{front, front_step, front_all}
use Rattle.lin_form.proofs.simpler.reduce_totals.Goals as goal

pub loop-i-preserved : goal.loop-i-preserved
loop-i-preserved c =
    let i = c.loop-i.i in
    let t = get_or c.loop-i.totals i (pos 0) in
    let ft : FitsSigned w128 t = search rules in
    let fr : FitsSigned w128 c.rem.result = search rules in
    let by : to_z w128 c.args.by ≡ pos c.args.by = omega (arith, ints) in
    let g = c.loop-i.invariant in
    let f : ℤ → ℤ = λ z. modulo z c.args.by in
    let value : to_z w128 (of_z w128 c.rem.result) ≡ modulo t c.args.by = to_z-of_z w128 c.rem.result fr ∙ c.rem.ensures.value ∙ (λ j. int_rem_euclid (to_z-of_z w128 t ft j) (by j)) in
    ap (λ z. set c.loop-i.totals i z) value
    ∙ (λ j. set (g j) i (modulo (get_or (g j) i (pos 0)) c.args.by))
    ∙ front_step (λ z. modulo z c.args.by) i c.args.totals.now (pos 0) c.loop-i-test.true
    ∙ ap (λ n. front (λ z. modulo z c.args.by) n c.args.totals.now) (sym (add-one i))

pub returns : goal.returns
returns c = c.loop-i.invariant ∙ front_all (λ z. modulo z c.args.by) c.loop-i.i c.args.totals.now c.loop-i-test.false
