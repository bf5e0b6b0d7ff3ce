-- A field that is in no literal has no coefficient in their first system.
use Rattle.std.proofs.Common.{◌≡◌, ℕ, zero, suc, ◌+◌, ◌<◌, ◌≤◌, List, [], ◌∷◌, ◌++◌, get_or, Bool, true, false, cond, ◌||◌, ◌==◌, arith, refl, ap, sym, ◌∙◌}
use Rattle.std.proofs.Math.IntN.{ℤ, pos, negsuc, ◌+ℤ◌, ◌-ℤ◌, ◌*ℤ◌, neg_ℤ}
use Rattle.std.specs.List.{All}
use Rattle.std.proofs.lemmas.Bool.{eqb-false, or_parts}
use Rattle.std.proofs.lemmas.List.{get_or-set_other, get_or-replicate}
use Rattle.std.proofs.lemmas.List.Elements.{All-nil, All-cons, All-append}
use Rattle.math_cooper.specs.Line.{AtLeastZero, DividedBy}
use Rattle.math_cooper.specs.System.{Condition, lead}
use Rattle.math_cooper.specs.Puts.{Absent}
use Rattle.model_form.specs.Form.{Form, form, Term, Remainders, no_remainders, remainder, constant_of}
use Rattle.model_form.specs.Sums.{add_fields}
use Rattle.model_chain.specs.Literals.{Relation, less, at_most, equal, Literal, Remainder, place, is_in, with_one, seen, seen_all, seen_in, remainders_in, width, zeros, over, add_at, add_places, add_terms, own_side, later_sides, conditions_of, literal_conditions, literals_conditions, remainder_conditions, remainders_conditions, bound_conditions, bounds_conditions, has_term, has_field, has_inner, field_in}
use Rattle.model_chain.specs.Chains.{least, greatest, first_system}

module _ (k : ℕ) (low : k < 8) where
  -- ---- rows

  at_other : (n : ℕ) (a : ℤ) (row : List ℤ) → (k ≡ n → ⊥) → get_or (add_at n a row) k (pos 0) ≡ get_or row k (pos 0)
  at_other n a row other = get_or-set_other row n k (get_or row n (pos 0) +ℤ a) (pos 0) other

  fields_other : (by : ℤ) (ts : List Term) (row : List ℤ) → has_term k ts ≡ false → get_or (add_fields by ts row) k (pos 0) ≡ get_or row k (pos 0)
  fields_other by [] row h = refl
  fields_other by (t ∷ ts) row h =
      let p = or_parts (t.field == k) (has_term k ts) h in
      fields_other by ts (add_at t.field (by *ℤ t.coefficient) row) p.1 ∙ at_other t.field (by *ℤ t.coefficient) row (λ e. eqb-false t.field k p.0 (sym e))

  terms_other : (R : List Remainder) (by : ℤ) (f : Form) (row : List ℤ) → has_field k f ≡ false → get_or (add_terms R by f row) k (pos 0) ≡ get_or row k (pos 0)
  terms_other R by (form c ts rs) row h = places rs (add_fields by ts row) ∙ fields_other by ts row (or_parts (has_term k ts) (has_inner k rs) h).0
    where
      places : (qs : Remainders) (row : List ℤ) → get_or (add_places R by qs row) k (pos 0) ≡ get_or row k (pos 0)
      places no_remainders row = refl
      places (remainder a f n qs) row =
          let at = 8 + place (record { inner = f; divisor = n }) R in
          places qs (add_at at (by *ℤ a) row) ∙ at_other at (by *ℤ a) row (λ e. omega arith)

  module _ (R : List Remainder) where
    abbrev IsMissing : Condition → Type 0
    IsMissing c = lead k c ≡ pos 0

    zeros_nought : get_or (zeros R) k (pos 0) ≡ pos 0
    zeros_nought = get_or-replicate (width R) k (pos 0) (pos 0) (omega arith)

    only : (c : Condition) → IsMissing c → Absent k (c ∷ [])
    only c h = All-cons IsMissing c [] h (All-nil IsMissing)

    -- ---- literals

    over_missing : (f g : Form) (d : ℤ) → has_field k f ≡ false → has_field k g ≡ false → IsMissing (over R f g d)
    over_missing f g d hf hg = terms_other R (negsuc 0) g (add_terms R (pos 1) f (zeros R)) hg ∙ terms_other R (pos 1) f (zeros R) hf ∙ zeros_nought

    literal_missing : (r : Relation) (positive side : Bool) (a b : Form) → has_field k a ≡ false → has_field k b ≡ false → Absent k (literal_conditions R r positive side a b)
    literal_missing less true side a b p q = only (over R b a (negsuc 0)) (over_missing b a (negsuc 0) q p)
    literal_missing at_most true side a b p q = only (over R b a (pos 0)) (over_missing b a (pos 0) q p)
    literal_missing equal true side a b p q = All-cons IsMissing (over R a b (pos 0)) (over R b a (pos 0) ∷ []) (over_missing a b (pos 0) p q) (only (over R b a (pos 0)) (over_missing b a (pos 0) q p))
    literal_missing less false side a b p q = only (over R a b (pos 0)) (over_missing a b (pos 0) p q)
    literal_missing at_most false side a b p q = only (over R a b (negsuc 0)) (over_missing a b (negsuc 0) p q)
    literal_missing equal false true a b p q = only (over R a b (negsuc 0)) (over_missing a b (negsuc 0) p q)
    literal_missing equal false false a b p q = only (over R b a (negsuc 0)) (over_missing b a (negsuc 0) q p)

    literals_missing : (ls : List Literal) (sides : List Bool) → field_in k ls ≡ false → Absent k (literals_conditions R ls sides)
    literals_missing [] sides h = All-nil IsMissing
    literals_missing (l ∷ ls) sides h =
        let p = or_parts (has_field k l.compare.left || has_field k l.compare.right) (field_in k ls) h in
        let q = or_parts (has_field k l.compare.left) (has_field k l.compare.right) p.0 in
        All-append IsMissing (conditions_of R l (own_side l sides)) (literals_conditions R ls (later_sides l sides))
        (literal_missing l.compare.relation l.positive (own_side l sides) l.compare.left l.compare.right q.0 q.1) (literals_missing ls (later_sides l sides) p.1)

    -- ---- remainders and bounds

    one_missing : (n : ℕ) (a : ℤ) → (k ≡ n → ⊥) → get_or (add_at n a (zeros R)) k (pos 0) ≡ pos 0
    one_missing n a other = at_other n a (zeros R) other ∙ zeros_nought

    remainder_missing : (n : ℕ) (r : Remainder) → 8 ≤ n → has_field k r.inner ≡ false → Absent k (remainder_conditions R n r)
    remainder_missing n r high h =
        let c1 : Condition = record { kind = AtLeastZero; constant = pos 0; coefficients = add_at n (pos 1) (zeros R) } in
        let c2 : Condition = record { kind = AtLeastZero; constant = pos r.divisor -ℤ pos 1; coefficients = add_at n (negsuc 0) (zeros R) } in
        let c3 : Condition = record { kind = DividedBy r.divisor; constant = constant_of r.inner; coefficients = add_at n (negsuc 0) (add_terms R (pos 1) r.inner (zeros R)) } in
        let other : k ≡ n → ⊥ = λ e. omega arith in
        All-cons IsMissing c1 (c2 ∷ c3 ∷ []) (one_missing n (pos 1) other) (All-cons IsMissing c2 (c3 ∷ []) (one_missing n (negsuc 0) other)
        (only c3 (at_other n (negsuc 0) (add_terms R (pos 1) r.inner (zeros R)) other ∙ terms_other R (pos 1) r.inner (zeros R) h ∙ zeros_nought)))

    remainders_missing : (n : ℕ) (rs : List Remainder) → 8 ≤ n → All (λ r. has_field k r.inner ≡ false) rs → Absent k (remainders_conditions R n rs)
    remainders_missing n [] high h = All-nil IsMissing
    remainders_missing n (r ∷ rs) high h =
        All-append IsMissing (remainder_conditions R n r) (remainders_conditions R (suc n) rs) (remainder_missing n r high (h 0 r (omega arith))) (remainders_missing (suc n) rs (omega arith) (λ j d l. h (suc j) d (omega arith)))

    bound_missing : (n : ℕ) → (k ≡ n → ⊥) → Absent k (bound_conditions R least greatest n)
    bound_missing n other =
        let c1 : Condition = record { kind = AtLeastZero; constant = neg_ℤ least; coefficients = add_at n (pos 1) (zeros R) } in
        let c2 : Condition = record { kind = AtLeastZero; constant = greatest; coefficients = add_at n (negsuc 0) (zeros R) } in
        All-cons IsMissing c1 (c2 ∷ []) (one_missing n (pos 1) other) (only c2 (one_missing n (negsuc 0) other))

    bounds_missing : (ls : List Literal) (n m : ℕ) → field_in k ls ≡ false → Absent k (bounds_conditions R least greatest ls n m)
    bounds_missing ls n zero h = All-nil IsMissing
    bounds_missing ls n (suc m) h = All-append IsMissing (cond (field_in n ls) (bound_conditions R least greatest n) []) (bounds_conditions R least greatest ls (suc n) m) (by (field_in n ls) refl) (bounds_missing ls (suc n) m h)
      where
        by : (b : Bool) → field_in n ls ≡ b → Absent k (cond b (bound_conditions R least greatest n) [])
        by true is = bound_missing n (λ e. let no : false ≡ true = sym h ∙ ap (λ j. field_in j ls) e ∙ is in cc)
        by false is = All-nil IsMissing

  -- ---- the remainders of the literals

  abbrev AreMissing : List Remainder → Type 0
  AreMissing R = All (λ r. has_field k r.inner ≡ false) R

  one_more : (r : Remainder) (R : List Remainder) → has_field k r.inner ≡ false → AreMissing R → AreMissing (with_one r R)
  one_more r R h a = by (is_in r R)
    where
      by : (b : Bool) → AreMissing (cond b R (R ++ r ∷ []))
      by true = a
      by false = All-append (λ s. has_field k s.inner ≡ false) R (r ∷ []) a (All-cons (λ s. has_field k s.inner ≡ false) r [] h (All-nil (λ s. has_field k s.inner ≡ false)))

  mutual
    seen_missing : (f : Form) (R : List Remainder) → has_field k f ≡ false → AreMissing R → AreMissing (seen f R)
    seen_missing (form c ts rs) R h a = seen_all_missing rs R (or_parts (has_term k ts) (has_inner k rs) h).1 a

    seen_all_missing : (rs : Remainders) (R : List Remainder) → has_inner k rs ≡ false → AreMissing R → AreMissing (seen_all rs R)
    seen_all_missing no_remainders R h a = a
    seen_all_missing (remainder c f n rs) R h a =
        let p = or_parts (has_field k f) (has_inner k rs) h in
        seen_all_missing rs (with_one (record { inner = f; divisor = n }) (seen f R)) p.1 (one_more (record { inner = f; divisor = n }) (seen f R) p.0 (seen_missing f R p.0 a))

  seen_in_missing : (ls : List Literal) (R : List Remainder) → field_in k ls ≡ false → AreMissing R → AreMissing (seen_in ls R)
  seen_in_missing [] R h a = a
  seen_in_missing (l ∷ ls) R h a =
      let p = or_parts (has_field k l.compare.left || has_field k l.compare.right) (field_in k ls) h in
      let q = or_parts (has_field k l.compare.left) (has_field k l.compare.right) p.0 in
      seen_in_missing ls (seen l.compare.right (seen l.compare.left R)) p.1 (seen_missing l.compare.right (seen l.compare.left R) q.1 (seen_missing l.compare.left R q.0 a))

  pub first_missing : (ls : List Literal) (bounded : Bool) (sides : List Bool) → field_in k ls ≡ false → Absent k (first_system ls bounded sides)
  first_missing ls bounded sides h =
      let R = remainders_in ls in
      let P : Condition → Type 0 = λ c. lead k c ≡ pos 0 in
      All-append P (literals_conditions R ls sides ++ remainders_conditions R 8 R) (cond bounded (bounds_conditions R least greatest ls 0 8) [])
      (All-append P (literals_conditions R ls sides) (remainders_conditions R 8 R) (literals_missing R ls sides h) (remainders_missing R 8 R (omega arith) (seen_in_missing ls [] h (All-nil (λ s. has_field k s.inner ≡ false))))) (by bounded)
    where
      by : (b : Bool) → Absent k (cond b (bounds_conditions (remainders_in ls) least greatest ls 0 8) [])
      by true = bounds_missing (remainders_in ls) ls 0 8 h
      by false = All-nil (λ c. lead k c ≡ pos 0)
