use Rattle.std.proofs.Common.{◌≡◌, ap, ◌∙◌, subst, Option, arith}
use Rattle.std.proofs.Math.IntN.{ℤ, ◌-ℤ◌}
use Rattle.std.proofs.lemmas.Int.{ints}
use Rattle.std.specs.Prelude.{IfSome}
use Rattle.model_form.specs.Form.{Form, value}
use Rattle.lin_solve.proofs.Branched.{field_value}
use Rattle.lin_solve.proofs.equations.own_of.Goals as goal

-- of equal sides, what is left of the second where the rest of the first is taken from it
taken : (l r o s f : ℤ) → s ≡ l -ℤ o → f ≡ r -ℤ s → l ≡ r → f ≡ o
taken l r o s f p q e = omega (arith, ints)

pub returns-in-Some-3 : goal.returns-in-Some-3
returns-in-Some-3 c =
    let left = c.args.left.now in
    let right = c.args.right.now in
    let own = c.in_ok-own.own in
    let rest = subst (λ (o : Option Form). IfSome o (λ f. (us : _) → value f us ≡ value left us -ℤ value own us)) c.in-Some-2.is (c.in_ok-rest.ensures {u = tt}) in
    let form = subst (λ (o : Option Form). IfSome o (λ f. (us : _) → value f us ≡ value right us -ℤ value c.in-Some-2.rest us)) c.in-Some-3.is (c.in_ok-form.ensures {u = tt}) in (
      (let l = c.if-field-ge8.false in omega arith),
      λ us same.
          taken (value left us) (value right us) (value own us) (value c.in-Some-2.rest us) (value c.in-Some-3.form us) (rest us) (form us) same
          ∙ ap (λ f. value f us) (c.in_ok-own.ensures {u = tt}) ∙ field_value c.in-Some.field us,
    )
