-- The steps by which the form of a whole number is made.
use Rattle.std.proofs.Common.{◌≡◌, ℕ, suc, ◌<◌, ◌+◌, ◌++◌, ◌==◌, List, [], ◌∷◌, map, length, get_or, drop, Bool, true, false, Result, Ok, Err, MatchResult, ◌⊎◌, inl, inr, refl, ap, sym, ◌∙◌, subst, append_assoc, arith}
use Rattle.std.proofs.Math.IntN.{ℤ, pos}
use Rattle.std.specs.Result.{IsErrAnd}
use Rattle.lin_form.specs.declared.stop.FormStop.TheVariants.{Memory}
use Rattle.std.proofs.lemmas.Bool.{eqb-true}
use Rattle.std.proofs.lemmas.Bool.Decides.{nat_tests}
use Rattle.std.proofs.lemmas.List.{at_drop_more}
use Rattle.std.proofs.lemmas.List.Elements.{Contains-append_left, Contains-append_right}
use Rattle.model_grammar.specs.Syntax.{Expr, Parts, part}
use Rattle.model_tree.specs.Signature.{PlainField}
use Rattle.model_form.specs.Form.{Form, form, no_remainders, remainder, fields_of, remainders_of}
use Rattle.lin_form.specs.declared.form.FieldTerm.{FieldTerm}
use Rattle.lin_form.specs.declared.form.RemTerm.{RemTerm}
use Rattle.lin_form.specs.Terms.{plain_fields, plain_remainders}
use Rattle.model_form.specs.Sums.{number_form}
use Rattle.model_form.specs.Ranges.{IsOutside}
use Rattle.model_guard.specs.Forms.{is_constant, step, form_of, added, multiplied, steps, forms_in, forms_in_all, HasOutside}
use Rattle.lin_form.specs.declared.stop.FormStop.{FormStop}
use Rattle.lin_form.specs.declared.sum.Signed.{Signed}
use Rattle.lin_form.specs.Gathered.{plain_parts}
use Rattle.lin_form.specs.Stops.{StopsAt}
use Rattle.lin_form.proofs.Putting.{stops_weaker}
use Rattle.fast_syntax.specs.Plain.{plain_expr}
use Rattle.fast_syntax.specs.declared.expressions.Expr.{Expr as Written}
use Rattle.fast_syntax.specs.declared.expressions.SumPart.{SumPart}
use Rattle.record_label.specs.Parts.{unmarked}
use Rattle.fast_syntax.specs.declared.expressions.ProdPart.{ProdPart}
use Rattle.fast_syntax.specs.Slices.{plain_sum_parts, plain_prod_parts}

-- ---- a number that is outside

pub outside_left : (fs gs : List Form) (n : ℤ) → HasOutside fs n → HasOutside (fs ++ gs) n
outside_left fs gs n (f, c, o) = (f, Contains-append_left fs gs f c, o)

pub outside_right : (fs gs : List Form) (n : ℤ) → HasOutside gs n → HasOutside (fs ++ gs) n
outside_right fs gs n (f, c, o) = (f, Contains-append_right fs gs f c, o)

pub outside_first : (f : Form) (fs : List Form) (n : ℤ) → IsOutside f n → HasOutside (f ∷ fs) n
outside_first f fs n o = (f, (0, omega arith, refl), o)

pub outside_rest : (f : Form) (fs : List Form) (n : ℤ) → HasOutside fs n → HasOutside (f ∷ fs) n
outside_rest f fs n h = outside_right (f ∷ []) fs n h

-- a result that says more
pub passed : {A : Type 0} (r : Result A FormStop) (P P' : A → Type 0) (Q Q' : ℤ → Type 0) → ((a : A) → P a → P' a) → ((n : ℤ) → Q n → Q' n) → MatchResult r P (StopsAt Q) → MatchResult r P' (StopsAt Q')
passed (Ok a) P P' Q Q' f g h = f a h
passed (Err e) P P' Q Q' f g h = stops_weaker Q Q' e g h

-- want of memory tells nothing of numbers
pub stopped : {A : Type 0} (r : Result A FormStop) (P : A → Type 0) (Q : ℤ → Type 0) → IsErrAnd r (λ e. e ≡ Memory) → MatchResult r P (StopsAt Q)
stopped (Ok a) P Q h = absurd h
stopped (Err e) P Q h = subst (StopsAt Q) (sym h) tt

-- of two that are made side by side, one that is there, and the stop of one that isn't
pub given : {A : Type 0} (r : Result A FormStop) (P : A → Type 0) (Q : ℤ → Type 0) (a : A) → r ≡ Ok a → MatchResult r P (StopsAt Q) → P a
given r P Q a is h = subst (λ s. MatchResult s P (StopsAt Q)) is h

pub either_stops : {A : Type 0} (r s : Result A FormStop) (P P' : A → Type 0) (fs gs : List Form) (e : FormStop) → MatchResult r P (StopsAt (HasOutside fs)) → MatchResult s P' (StopsAt (HasOutside gs)) → (r ≡ Err e) ⊎ (s ≡ Err e) → StopsAt (HasOutside (fs ++ gs)) e
either_stops r s P P' fs gs e h k (inl is) = stops_weaker (HasOutside fs) (HasOutside (fs ++ gs)) e (outside_left fs gs) (subst (λ t. MatchResult t P (StopsAt (HasOutside fs))) is h)
either_stops r s P P' fs gs e h k (inr is) = stops_weaker (HasOutside gs) (HasOutside (fs ++ gs)) e (outside_right fs gs) (subst (λ t. MatchResult t P' (StopsAt (HasOutside gs))) is k)

-- ---- forms alone

-- a form is a constant where it has no terms
pub some_fields : (f : Form) (ts : List FieldTerm) → plain_fields ts ≡ fields_of f → (length ts == 0) ≡ false → is_constant f ≡ false
some_fields f [] e n = cc
some_fields (form c [] rs) (t ∷ ts) e n = cc
some_fields (form c (u ∷ us) rs) (t ∷ ts) e n = refl

pub no_fields : (f : Form) (ts : List FieldTerm) (rs : List RemTerm) → plain_fields ts ≡ fields_of f → plain_remainders rs ≡ remainders_of f → (length ts == 0) ≡ true → (length rs == 0) ≡ is_constant f
no_fields f (t ∷ ts) rs e g n = absurd (not_zero (length ts) n)
  where
    not_zero : (k : ℕ) → (suc k == 0) ≡ true → ⊥
    not_zero k h = absurd (omega (arith, eqb-true (suc k) 0 h))
no_fields (form c (u ∷ us) qs) [] rs e g n = cc
no_fields (form c [] no_remainders) [] [] e g n = refl
no_fields (form c [] (remainder a f k qs)) [] [] e g n = cc
no_fields (form c [] no_remainders) [] (r ∷ rs) e g n = cc
no_fields (form c [] (remainder a f k qs)) [] (r ∷ rs) e g n = grind (arith, nat_tests)

-- ---- the parts of a sum and of a product as lists

pub sum_at : (ps : List SumPart) (i : ℕ) (p : SumPart) → i < length ps → p ≡ get_or ps i p → plain_sum_parts (drop i ps) ≡ part p.minus (plain_expr p.part) (plain_sum_parts (drop (i + 1) ps))
sum_at ps i p l is = at_drop_more plain_sum_parts ps i p l ∙ ap (λ (q : SumPart). part q.minus (plain_expr q.part) (plain_sum_parts (drop (i + 1) ps))) (sym is)

pub product_at : (ps : List ProdPart) (i : ℕ) (p : ProdPart) → i < length ps → p ≡ get_or ps i p → plain_prod_parts (drop i ps) ≡ part p.remainder (plain_expr p.part) (plain_prod_parts (drop (i + 1) ps))
product_at ps i p l is = at_drop_more plain_prod_parts ps i p l ∙ ap (λ (q : ProdPart). part q.remainder (plain_expr q.part) (plain_prod_parts (drop (i + 1) ps))) (sym is)

pub operand_at : (ps : List Written) (i : ℕ) (p : Written) → i < length ps → p ≡ get_or ps i p → unmarked (map plain_expr (drop i ps)) ≡ part false (plain_expr p) (unmarked (map plain_expr (drop (i + 1) ps)))
operand_at ps i p l is = at_drop_more (λ qs. unmarked (map plain_expr qs)) ps i p l ∙ ap (λ (q : Written). part false (plain_expr q) (unmarked (map plain_expr (drop (i + 1) ps)))) (sym is)

parts_push : (made : List Signed) (s : Signed) → plain_parts (made ++ s ∷ []) ≡ plain_parts made ++ record { minus = s.minus; added = s.form } ∷ []
parts_push [] s = refl
parts_push (m ∷ made) s = ap (λ ps. record { minus = m.minus; added = m.form } ∷ ps) (parts_push made s)

module _ (fields : List PlainField) where
  -- one more part of a sum
  pub added_more : (made now : List Signed) (subtracted : Bool) (f : Form) (e : Expr) (rest at whole : Parts) → now ≡ made ++ record { minus = subtracted; form = f } ∷ [] → f ≡ form_of fields e → at ≡ part subtracted e rest
      → plain_parts made ++ added fields at ≡ added fields whole → plain_parts now ++ added fields rest ≡ added fields whole
  added_more made now subtracted f e rest at whole pushed is here h =
      (λ i. plain_parts (pushed i) ++ added fields rest)
      ∙ (λ i. parts_push made (record { minus = subtracted; form = f }) i ++ added fields rest)
      ∙ append_assoc (plain_parts made) (record { minus = subtracted; added = f } ∷ []) (added fields rest)
      ∙ (λ i. plain_parts made ++ record { minus = subtracted; added = is i } ∷ added fields rest)
      ∙ sym (ap (λ parts. plain_parts made ++ added fields parts) here) ∙ h

  -- what is outside in a part is so in the parts
  pub in_first : (marked : Bool) (e : Expr) (rest at : Parts) (n : ℤ) → at ≡ part marked e rest → HasOutside (forms_in fields e) n → HasOutside (forms_in_all fields at) n
  in_first marked e rest at n here h = subst (λ parts. HasOutside (forms_in_all fields parts) n) (sym here) (outside_left (forms_in fields e) (forms_in_all fields rest) n h)

  pub in_rest : (marked : Bool) (e : Expr) (rest at : Parts) (n : ℤ) → at ≡ part marked e rest → HasOutside (forms_in_all fields rest) n → HasOutside (forms_in_all fields at) n
  in_rest marked e rest at n here h = subst (λ parts. HasOutside (forms_in_all fields parts) n) (sym here) (outside_right (forms_in fields e) (forms_in_all fields rest) n h)

  -- one more step of a product
  pub multiplied_more : (before now : Form) (divides : Bool) (e : Expr) (rest at whole : Parts) → now ≡ step before divides e (form_of fields e) → at ≡ part divides e rest → multiplied fields before at ≡ multiplied fields (number_form (pos 1)) whole → multiplied fields now rest ≡ multiplied fields (number_form (pos 1)) whole
  multiplied_more before now divides e rest at whole is here h = ap (λ f. multiplied fields f rest) is ∙ sym (ap (multiplied fields before) here) ∙ h

  pub step_first : (before : Form) (divides : Bool) (e : Expr) (own : Form) (rest at : Parts) (n : ℤ) → own ≡ form_of fields e → at ≡ part divides e rest → IsOutside (step before divides e own) n → HasOutside (steps fields before at) n
  step_first before divides e own rest at n is here o =
      subst (λ parts. HasOutside (steps fields before parts) n) (sym here) (outside_first (step before divides e (form_of fields e)) (steps fields (step before divides e (form_of fields e)) rest) n (subst (λ f. IsOutside (step before divides e f) n) is o))

  pub step_rest : (before now : Form) (divides : Bool) (e : Expr) (rest at : Parts) (n : ℤ) → now ≡ step before divides e (form_of fields e) → at ≡ part divides e rest → HasOutside (steps fields now rest) n → HasOutside (steps fields before at) n
  step_rest before now divides e rest at n is here h =
      subst (λ parts. HasOutside (steps fields before parts) n) (sym here) (outside_rest (step before divides e (form_of fields e)) (steps fields (step before divides e (form_of fields e)) rest) n (subst (λ f. HasOutside (steps fields f rest) n) is h))
