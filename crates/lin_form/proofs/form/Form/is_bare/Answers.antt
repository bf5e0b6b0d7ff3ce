use Rattle.std.proofs.Common.{◌≡◌, List, [], ◌∷◌, refl, ap, sym, ◌∙◌, arith, length, true, false, eqb, of_z, vec_len}
use Rattle.std.specs.Prelude.{pos}
use Rattle.std.specs.Int.{w64, w128}
use Rattle.std.specs.Ordering.{int_eq}
use Rattle.std.proofs.lemmas.Int.{ints}
use Rattle.std.proofs.lemmas.Bool.{eq-eqb, eqb-true}
use Rattle.lin_form.specs.declared.form.FieldTerm.{FieldTerm}
use Rattle.lin_form.specs.declared.form.RemTerm.{RemTerm}
use Rattle.lin_form.proofs.Hashing.{count-remainders}
use Rattle.lin_form.proofs.Outside.{fields_none}
use Rattle.lin_form.specs.Nest.{is_bare}
use Rattle.lin_form.specs.Terms.{plain_fields, plain_remainders}
use Rattle.lin_form.proofs.Nests.{constant_not, fields_not, count_not, bare_is}
use Rattle.lin_form.proofs.form.Form.is_bare.Goals as goal

none : (ts : List FieldTerm) → length ts ≡ 0 → plain_fields ts ≡ []
none [] e = refl
none (t ∷ ts) e = absurd (omega arith)

pub returns-then-self-ne0 : goal.returns-then-self-ne0
returns-then-self-ne0 c =
    sym (constant_not c.self.inside.constant (plain_fields c.self.inside.fields.items) (plain_remainders c.self.inside.remainders.items) (λ e. c.if-self-ne0.true (ap (of_z w128) e))) ∙ ap is_bare c.self.view_is

pub returns-then-not-is_empty : goal.returns-then-not-is_empty
returns-then-not-is_empty c =
    sym (fields_not c.self.inside.constant (plain_fields c.self.inside.fields.items) (plain_remainders c.self.inside.remainders.items) (λ e.
    let l = fields_none c.self.inside.fields.items e in
    let v : vec_len c.self.inside.fields ≡ 0 = omega arith in
    let z : true ≡ false = sym (eq-eqb (vec_len c.self.inside.fields) 0 v) ∙ sym c.is_empty.ensures ∙ c.if-not-is_empty.true in cc))
    ∙ ap is_bare c.self.view_is

pub returns-then-len-ne1 : goal.returns-then-len-ne1
returns-then-len-ne1 c =
    sym (count_not c.self.inside.constant (plain_fields c.self.inside.fields.items) (plain_remainders c.self.inside.remainders.items) (λ e.
    c.if-len-ne1.true (c.len.ensures ∙ (let l = count-remainders c.self.inside.remainders.items in let v : vec_len c.self.inside.remainders ≡ 1 = omega arith in v))))
    ∙ ap is_bare c.self.view_is

pub returns : goal.returns
returns c =
    let l : length c.self.inside.remainders.items ≡ 1 = (let e = c.len.ensures in let f = c.if-len-ne1.false in omega arith) in
    let z : c.self.inside.constant ≡ pos 0 = (let e = c.if-self-ne0.false in omega (arith, ints)) in
    let n : plain_fields c.self.inside.fields.items ≡ [] = none c.self.inside.fields.items (let e = eqb-true (vec_len c.self.inside.fields) 0 (sym c.is_empty.ensures ∙ c.if-not-is_empty.false) in omega arith) in
    let one : eqb (of_z w64 c.index.result.now.coefficient) 1 ≡ int_eq c.index.result.now.coefficient (pos 1) = grind (arith, ints) in
    one ∙ ap (λ (x : RemTerm). int_eq x.coefficient (pos 1)) c.index.ensures ∙ sym (bare_is c.self.inside.constant (plain_fields c.self.inside.fields.items) c.self.inside.remainders.items _ z n l) ∙ ap is_bare c.self.view_is
