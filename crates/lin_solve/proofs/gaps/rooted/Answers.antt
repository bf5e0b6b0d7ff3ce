use Rattle.std.proofs.Common.{◌≡◌, refl, ap, sym, ◌∙◌, subst, arith, List, to_z, of_z}
use Rattle.std.specs.Prelude.{ℤ, pos, ◌-ℤ◌, IfSome}
use Rattle.std.specs.Int.{w128}
use Rattle.std.proofs.lemmas.Int.{ints}
use Rattle.model_tree.specs.Range.{IsLabelNumber}
use Rattle.model_form.specs.Form.{Form, value}
use Rattle.lin_solve.proofs.Gapped.{constant_range, number_value}
use Rattle.lin_solve.proofs.gaps.rooted.Goals as goal

pub returns-in-Some : goal.returns-in-Some
returns-in-Some c =
    let n = c.constant-constant.result in
    let range : IsLabelNumber n = subst IsLabelNumber (sym c.constant-constant.ensures.value) (constant_range c.args.whole.now c.constant-constant.ensures.form) in
    let over = c.if-constant.false in
    let back : to_z w128 (of_z w128 (pos 0 -ℤ to_z w128 (of_z w128 n))) ≡ pos 0 -ℤ n = omega (arith, ints) in
    let same : to_z w128 (of_z w128 n) ≡ n = omega (arith, ints) in
    let h = subst (λ o. IfSome o (λ (f : Form). (us : List ℤ) → value f us ≡ value c.args.whole.now us -ℤ value c.in_ok-own.own us)) c.in-Some.is (c.in_ok-form.ensures {u = tt}) in (
      refl,
      subst IsLabelNumber (sym back) (omega (arith, ints)),
      λ us.
          let own : value c.in_ok-own.own us ≡ n = ap (λ f. value f us) (c.in_ok-own.ensures {u = tt}) ∙ number_value (to_z w128 (of_z w128 n)) us ∙ same in
          let e = h us in
          omega (arith, ints),
    )
