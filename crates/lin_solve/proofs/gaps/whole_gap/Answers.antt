use Rattle.std.proofs.Common.{◌≡◌, sym, subst, arith, List}
use Rattle.std.specs.Prelude.{ℤ, ◌-ℤ◌, IfSome}
use Rattle.std.proofs.lemmas.Int.{ints}
use Rattle.model_form.specs.Form.{Form, value}
use Rattle.lin_solve.specs.Said.{IsParted}
use Rattle.lin_solve.proofs.Gapped.{weaker}
use Rattle.lin_solve.proofs.gaps.whole_gap.Goals as goal

pub returns : goal.returns
returns c =
    let h = subst (λ o. IfSome o (λ (f : Form). (us : List ℤ) → value f us ≡ value c.args.right.now us -ℤ value c.args.left.now us)) c.in-Some-2.is (c.in_ok-turned.ensures {u = tt}) in
    weaker c.rooted-2.result _ _ (λ g p. (p.1, λ us. let e = h us in let d = p.2 us in subst (λ m. IsParted m g.number (value g.form us) (value c.args.left.now us -ℤ value c.args.right.now us)) (sym p.0) (omega (arith, ints)))) c.rooted-2.ensures

pub returns-then-not-is_negative : goal.returns-then-not-is_negative
returns-then-not-is_negative c =
    let h = subst (λ o. IfSome o (λ (f : Form). (us : List ℤ) → value f us ≡ value c.args.left.now us -ℤ value c.args.right.now us)) c.in-Some.is (c.in_ok-whole.ensures {u = tt}) in
    weaker c.rooted.result _ _ (λ g p. (p.1, λ us. let e = h us in let d = p.2 us in subst (λ m. IsParted m g.number (value g.form us) (value c.args.left.now us -ℤ value c.args.right.now us)) (sym p.0) (omega (arith, ints)))) c.rooted.ensures
