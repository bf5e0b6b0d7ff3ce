use Rattle.std.proofs.Common.{◌≡◌, true, ap, sym, ◌∙◌, subst, arith}
use Rattle.std.proofs.lemmas.Int.{ints}
use Rattle.std.specs.Cmp.Lexicographic.{pointwise}
use Rattle.lin_form.specs.declared.form.FieldTerm.{FieldTerm}
use Rattle.lin_form.specs.Terms.{plain_fields}
use Rattle.std.proofs.Common.{◌&&◌, refl, eqb, int_eq}
use Rattle.std.proofs.lemmas.Bool.{eqb-true, eq-eqb}
use Rattle.model_form.proofs.Values.{both_out, int_eq-out}
use Rattle.lin_form.proofs.Members.{plain_fields_once, pointwise_out, pointwise_in}
use Rattle.lin_form.specs.contracts.form.FieldTermPartialEq.TheImpl.{eq-value}
use Rattle.lin_form.proofs.same.same_fields.Goals as goal

out : (x y : FieldTerm) → eq-value.it x y ≡ true → x ≡ y
out x y e =
    let p = both_out (eqb x.field y.field) (int_eq x.coefficient y.coefficient) e in
    let f = eqb-true x.field y.field p.0 in
    let g = int_eq-out x.coefficient y.coefficient p.1 in
    λ i. record { field = f i; coefficient = g i }

own : (x : FieldTerm) → eq-value.it x x ≡ true
own x = let p = eq-eqb x.field x.field refl in let q : int_eq x.coefficient x.coefficient ≡ true = grind (arith, ints) in λ i. p i && q i

pub returns : goal.returns
returns c =
    let h = c.eq.ensures in
    (λ e. ap plain_fields (pointwise_out eq-value.it out c.args.terms.now c.args.others.now (sym h ∙ e)), λ e. let d = plain_fields_once c.args.terms.now c.args.others.now e in h ∙ subst (λ us. pointwise eq-value.it c.args.terms.now us ≡ true) d (pointwise_in eq-value.it own c.args.terms.now))
