-- The first of failing conditions is one of them, and no other goes before it.
use Rattle.std.proofs.Common.{◌≡◌, ℕ, zero, suc, ◌≤◌, ◌<◌, ◌⊎◌, inl, inr, Bool, true, false, cond, List, [], ◌∷◌, Option, Some, None, Contains, refl, sym, ap, ◌∙◌, arith}
use Rattle.std.specs.Prelude.{nat_lt}
use Rattle.std.proofs.lemmas.Bool.Decides.{nat_tests}
use Rattle.fast_fault.specs.declared.refusal.Refusal.{Refusal}
use Rattle.fast_fault.specs.Codes.{number_of}
use Rattle.model_checks.specs.Failures.{is_less_or_then, goes_before, first_among, is_empty}

not_less_out : (m n : ℕ) (b : Bool) → is_less_or_then m n b ≡ false → (n ≤ m) × (m ≡ n → b ≡ false)
not_less_out m n true e = (grind (arith, nat_tests), λ same. grind (arith, nat_tests))
not_less_out m n false e = (grind (arith, nat_tests), λ same. refl)

not_less : (m n : ℕ) (b : Bool) → n ≤ m → (m ≡ n → b ≡ false) → is_less_or_then m n b ≡ false
not_less m n true low same = let apart : m ≡ n → ⊥ = λ e. (let no : true ≡ false = same e in absurd (cc)) in grind (arith, nat_tests)
not_less m n false low same = grind (arith, nat_tests)

neither : (l m n : ℕ) (x y z : Bool) → is_less_or_then l m x ≡ false → is_less_or_then m n y ≡ false → (x ≡ false → y ≡ false → z ≡ false) → is_less_or_then l n z ≡ false
neither l m n x y z e f rest =
    let p = not_less_out l m x e in
    let q = not_less_out m n y f in
    not_less l n z (omega arith) (λ same. rest (p.1 (omega arith)) (q.1 (omega arith)))

not_both : (m n : ℕ) (x y : Bool) → is_less_or_then m n x ≡ true → (x ≡ true → y ≡ false) → is_less_or_then n m y ≡ false
not_both m n true y e rest = let z : y ≡ false = rest refl in not_less n m y (grind (arith, nat_tests)) (λ same. z)
not_both m n false y e rest = let low : m < n = grind (arith, nat_tests) in not_less n m y (omega arith) (λ same. absurd (omega arith))

base_neither : (l m n : ℕ) → nat_lt l m ≡ false → nat_lt m n ≡ false → nat_lt l n ≡ false
base_neither l m n e f = grind (arith, nat_tests)

base_not_both : (m n : ℕ) → nat_lt m n ≡ true → nat_lt n m ≡ false
base_not_both m n e = grind (arith, nat_tests)

-- what doesn't go before one that doesn't go before a third doesn't go before the third
passes_on : (f g h : Refusal) → goes_before f g ≡ false → goes_before g h ≡ false → goes_before f h ≡ false
passes_on f g h e d = neither f.place.line g.place.line h.place.line _ _ _ e d (λ p q. neither f.place.column g.place.column h.place.column _ _ _ p q (λ s t. base_neither (number_of f.code) (number_of g.code) (number_of h.code) s t))

one_way : (f g : Refusal) → goes_before f g ≡ true → goes_before g f ≡ false
one_way f g e = not_both f.place.line g.place.line _ _ e (λ d. not_both f.place.column g.place.column _ _ d (base_not_both _ _))

itself : (f : Refusal) → goes_before f f ≡ false
itself f = not_less f.place.line f.place.line _ (omega arith) (λ _. not_less f.place.column f.place.column _ (omega arith) (λ _. grind (arith, nat_tests)))

-- it is the one that was known or one of these, and neither the one nor any of these goes before it
pub record IsLeast (known : Option Refusal) (fs : List Refusal) (r : Refusal) : Type 0 where
  pub is : (known ≡ Some r) ⊎ Contains fs r
  pub not_known : (g : Refusal) → known ≡ Some g → goes_before g r ≡ false
  pub not_these : (f : Refusal) → Contains fs f → goes_before f r ≡ false

one_more : (x y : Refusal) (xs : List Refusal) → Contains xs x → Contains (y ∷ xs) x
one_more x y xs (k, low, is) = (suc k, omega (arith, low), is)

here : (x y : Refusal) (xs : List Refusal) → y ≡ x → Contains (y ∷ xs) x
here x y xs e = (0, omega arith, e)

at_first : (known : Option Refusal) (f : Refusal) (fs : List Refusal) (r : Refusal) → (Some f ≡ Some r) ⊎ Contains fs r → (known ≡ Some r) ⊎ Contains (f ∷ fs) r
at_first known f fs r (inl e) = inr (here r f fs (cc))
at_first known f fs r (inr at) = inr (one_more r f fs at)

each : (f : Refusal) (fs : List Refusal) (r : Refusal) → goes_before f r ≡ false → ((g : Refusal) → Contains fs g → goes_before g r ≡ false) → (g : Refusal) → Contains (f ∷ fs) g → goes_before g r ≡ false
each f fs r first later g (zero, low, is) = ap (λ h. goes_before h r) (sym is) ∙ first
each f fs r first later g (suc k, low, is) = later g (k, omega (arith, low), is)

pub least : (known : Option Refusal) (fs : List Refusal) (r : Refusal) → first_among known fs ≡ Some r → IsLeast known fs r
least known [] r e = record {
  is = inl e;
  not_known = λ g is. (let same : g ≡ r = cc in ap (λ h. goes_before h r) same ∙ itself r);
  not_these = λ f at. absurd (omega (arith, at.1));
}
least None (f ∷ fs) r e =
    let later = least (Some f) fs r e in
    record {
      is = at_first None f fs r later.is;
      not_known = λ g is. absurd (cc);
      not_these = each f fs r (later.not_known f refl) later.not_these;
    }
least (Some g) (f ∷ fs) r e = by (goes_before f g) refl e (least (Some f) fs r) (least (Some g) fs r)
  where
    by : (b : Bool) → goes_before f g ≡ b → first_among (cond b (Some f) (Some g)) fs ≡ Some r → (first_among (Some f) fs ≡ Some r → IsLeast (Some f) fs r) → (first_among (Some g) fs ≡ Some r → IsLeast (Some g) fs r) → IsLeast (Some g) (f ∷ fs) r
    by true before e with_f with_g =
        let later = with_f e in
        record {
          is = at_first (Some g) f fs r later.is;
          not_known = λ h is. (let same : g ≡ h = cc in ap (λ k. goes_before k r) (sym same) ∙ passes_on g f r (one_way f g before) (later.not_known f refl));
          not_these = each f fs r (later.not_known f refl) later.not_these;
        }
    by false behind e with_f with_g =
        let later = with_g e in
        record {
          is = elim later.is [ inl is ↦ inl is | inr at ↦ inr (one_more r f fs at) ];
          not_known = later.not_known;
          not_these = each f fs r (passes_on f g r behind (later.not_known g refl)) later.not_these;
        }

some_known : (g : Refusal) (fs : List Refusal) → first_among (Some g) fs ≡ None → ⊥
some_known g [] e = absurd (cc)
some_known g (f ∷ fs) e = by (goes_before f g) e (some_known f fs) (some_known g fs)
  where
    by : (b : Bool) → first_among (cond b (Some f) (Some g)) fs ≡ None → (first_among (Some f) fs ≡ None → ⊥) → (first_among (Some g) fs ≡ None → ⊥) → ⊥
    by true e with_f with_g = with_f e
    by false e with_f with_g = with_g e

pub none_first : (fs : List Refusal) → first_among None fs ≡ None → is_empty fs ≡ true
none_first [] e = refl
none_first (f ∷ fs) e = absurd (some_known f fs e)

pub first_of_none : (fs : List Refusal) → is_empty fs ≡ true → first_among None fs ≡ None
first_of_none [] e = refl
first_of_none (f ∷ fs) e = absurd (cc)
