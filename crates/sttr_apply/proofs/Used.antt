-- How often states are to be used, as the list of them changes.
use Rattle.std.proofs.Common.{ℕ, zero, suc, ◌≡◌, ◌+◌, ◌<◌, ◌≤◌, ◌⊎◌, inl, inr, ◌==◌, Bool, true, false, cond, List, [], ◌∷◌, ◌++◌, map, length, get_or, set, take, Vec, Global, refl, sym, ap, subst, ◌∙◌, arith}
use Rattle.std.specs.Prelude.{⊤, Contains}
use Rattle.std.proofs.lemmas.Bool.Decides.{nat_tests}
use Rattle.std.proofs.lemmas.List.{take_more, map-append}
use Rattle.model_sttr.specs.Terms.{Term}
use Rattle.model_sttr.specs.Transducer.{Head}
use Rattle.sttr_core.specs.Terms.{plain_term}
use Rattle.sttr_core.specs.declared.term.Term.{Term as Written}
use Rattle.sttr_core.specs.declared.term.Term.TheVariants.{Node}
use Rattle.sttr_core.proofs.Parts.{parts_of, parts_are}
use Rattle.apply_laws.specs.Lists.{sum_of}
use Rattle.sttr_apply.specs.Calls.{one, calls, calls_in, calls_of, used, IsFirst, IsNowhere, AreStillFound}
use Rattle.sttr_apply.specs.declared.calls.Entry.{Entry}
use Rattle.sttr_apply.proofs.Rows.{sum_push}

pub same_number : (a b : ℕ) → a ≡ b → (a == b) ≡ true
same_number a b e = grind (arith, nat_tests)

pub other_number : (a b : ℕ) → ¬ (a ≡ b) → (a == b) ≡ false
other_number a b d = grind (arith, nat_tests)

pub number_of_test : (a b : ℕ) → (a == b) ≡ true → a ≡ b
number_of_test a b e = grind (arith, nat_tests)

-- nothing is said of the state before this place
abbrev pub NoneBefore : ℕ → ℕ → List (ℕ × ℕ) → Type 0
NoneBefore q zero ps = ⊤
NoneBefore q (suc i) [] = ⊤
NoneBefore q (suc i) (p ∷ ps) = ¬ (p.0 ≡ q) × NoneBefore q i ps

module _ {X : Type 0} (f : X → ℕ × ℕ) (q : ℕ) where
  none_suc : (xs : List X) (i : ℕ) (x : X) → NoneBefore q i (map f xs) → i < length xs → x ≡ get_or xs i x → ¬ ((f x).0 ≡ q) → NoneBefore q (suc i) (map f xs)
  none_suc [] i x h l e d = absurd (omega (arith, l))
  none_suc (y ∷ xs) zero x h l e d = ((λ g. d (ap (λ z. (f z).0) e ∙ g)), tt)
  none_suc (y ∷ xs) (suc i) x h l e d = (h.0, none_suc xs i x h.1 (omega arith) e d)

  pub none_more : (xs : List X) (i : ℕ) (x : X) → NoneBefore q i (map f xs) → i < length xs → x ≡ get_or xs i x → ¬ ((f x).0 ≡ q) → NoneBefore q (i + 1) (map f xs)
  none_more xs i x h l e d = let n : suc i ≡ i + 1 = omega arith in subst (λ n. NoneBefore q n (map f xs)) n (none_suc xs i x h l e d)

  pub none_at_all : (xs : List X) (i : ℕ) → NoneBefore q i (map f xs) → length xs ≤ i → IsNowhere q (map f xs)
  none_at_all [] i h l = tt
  none_at_all (x ∷ xs) zero h l = absurd (omega (arith, l))
  none_at_all (x ∷ xs) (suc i) h l = (h.0, none_at_all xs i h.1 (omega arith))

  pub first_is : (xs : List X) (i : ℕ) (x : X) → NoneBefore q i (map f xs) → i < length xs → x ≡ get_or xs i x → (f x).0 ≡ q → IsFirst q i (map f xs)
  first_is [] i x h l e d = absurd (omega (arith, l))
  first_is (y ∷ xs) zero x h l e d = ap (λ z. (f z).0) (sym e) ∙ d
  first_is (y ∷ xs) (suc i) x h l e d = (h.0, first_is xs i x h.1 (omega arith) e d)

  pub first_low : (xs : List X) (i : ℕ) → IsFirst q i (map f xs) → i < length xs
  first_low [] i h = absurd h
  first_low (x ∷ xs) zero h = omega arith
  first_low (x ∷ xs) (suc i) h = omega (arith, first_low xs i h.1)

  pub first_state : (xs : List X) (i : ℕ) (x : X) → IsFirst q i (map f xs) → x ≡ get_or xs i x → (f x).0 ≡ q
  first_state [] i x h e = absurd h
  first_state (y ∷ xs) zero x h e = ap (λ z. (f z).0) e ∙ h
  first_state (y ∷ xs) (suc i) x h e = first_state xs i x h.1 e

  pub first_used : (xs : List X) (i : ℕ) (x : X) → IsFirst q i (map f xs) → x ≡ get_or xs i x → used (map f xs) q ≡ (f x).1
  first_used [] i x h e = absurd h
  first_used (y ∷ xs) zero x h e = ap (λ b. cond b (f y).1 (used (map f xs) q)) (same_number (f y).0 q h) ∙ ap (λ z. (f z).1) (sym e)
  first_used (y ∷ xs) (suc i) x h e = ap (λ b. cond b (f y).1 (used (map f xs) q)) (other_number (f y).0 q h.0) ∙ first_used xs i x h.1 e

  -- with another one in the place of the first that is said of the state
  pub used_set : (xs : List X) (i : ℕ) (z : X) (r : ℕ) → IsFirst q i (map f xs) → (f z).0 ≡ q → used (map f (set xs i z)) r ≡ cond (q == r) (f z).1 (used (map f xs) r)
  used_set [] i z r h e = absurd h
  used_set (y ∷ xs) zero z r h e = ap (λ p. cond (p == r) (f z).1 (used (map f xs) r)) e ∙ pick (q == r) refl
    where
      pick : (b : Bool) → (q == r) ≡ b → cond b (f z).1 (used (map f xs) r) ≡ cond b (f z).1 (cond ((f y).0 == r) (f y).1 (used (map f xs) r))
      pick true t = refl
      pick false t = sym (ap (λ b. cond b (f y).1 (used (map f xs) r)) (ap (λ p. p == r) h ∙ t))
  used_set (y ∷ xs) (suc i) z r h e = ap (λ n. cond ((f y).0 == r) (f y).1 n) (used_set xs i z r h.1 e) ∙ pick ((f y).0 == r) (q == r) refl refl
    where
      pick : (a b : Bool) → ((f y).0 == r) ≡ a → (q == r) ≡ b → cond a (f y).1 (cond b (f z).1 (used (map f xs) r)) ≡ cond b (f z).1 (cond a (f y).1 (used (map f xs) r))
      pick true true t u = absurd (h.0 (number_of_test (f y).0 r t ∙ sym (number_of_test q r u)))
      pick true false t u = refl
      pick false true t u = refl
      pick false false t u = refl

  -- once more
  pub used_once_more : (xs : List X) (i : ℕ) (x z : X) (r : ℕ) → IsFirst q i (map f xs) → x ≡ get_or xs i x → (f z).0 ≡ q → (f z).1 ≡ (f x).1 + 1 → used (map f (set xs i z)) r ≡ used (map f xs) r + one q r
  used_once_more xs i x z r h e s n = used_set xs i z r h s ∙ pick (q == r) refl
    where
      pick : (b : Bool) → (q == r) ≡ b → cond b (f z).1 (used (map f xs) r) ≡ used (map f xs) r + cond b 1 0
      pick true t = omega (arith, n, first_used xs i x h e, ap (used (map f xs)) (number_of_test q r t))
      pick false t = omega arith

  pub used_once_less : (xs : List X) (i : ℕ) (x z : X) (r : ℕ) → IsFirst q i (map f xs) → x ≡ get_or xs i x → (f z).0 ≡ q → (f z).1 + 1 ≡ (f x).1 → used (map f (set xs i z)) r + one q r ≡ used (map f xs) r
  used_once_less xs i x z r h e s n = ap (λ m. m + one q r) (used_set xs i z r h s) ∙ pick (q == r) refl
    where
      pick : (b : Bool) → (q == r) ≡ b → cond b (f z).1 (used (map f xs) r) + cond b 1 0 ≡ used (map f xs) r
      pick true t = omega (arith, n, first_used xs i x h e, ap (used (map f xs)) (number_of_test q r t))
      pick false t = omega arith

  pub nowhere_used : (xs : List X) → IsNowhere q (map f xs) → used (map f xs) q ≡ 0
  nowhere_used [] h = refl
  nowhere_used (x ∷ xs) h = ap (λ b. cond b (f x).1 (used (map f xs) q)) (other_number (f x).0 q h.0) ∙ nowhere_used xs h.1

  -- for the first time
  pub used_push : (xs more : List X) (z : X) (r : ℕ) → IsNowhere q (map f xs) → more ≡ xs ++ z ∷ [] → (f z).0 ≡ q → (f z).1 ≡ 1 → used (map f more) r ≡ used (map f xs) r + one q r
  used_push xs more z r h is s n = ap (λ ys. used (map f ys) r) is ∙ push xs h
    where
      push : (xs : List X) → IsNowhere q (map f xs) → used (map f (xs ++ z ∷ [])) r ≡ used (map f xs) r + one q r
      push [] h = ap (λ p. cond (p == r) (f z).1 0) s ∙ (ap (λ m. cond (q == r) m 0) n ∙ omega arith)
      push (y ∷ ys) h = ap (λ m. cond ((f y).0 == r) (f y).1 m) (push ys h.1) ∙ pick ((f y).0 == r) (q == r) refl refl
        where
          pick : (a b : Bool) → ((f y).0 == r) ≡ a → (q == r) ≡ b → cond a (f y).1 (used (map f ys) r + cond b 1 0) ≡ cond a (f y).1 (used (map f ys) r) + cond b 1 0
          pick true true t u = absurd (h.0 (number_of_test (f y).0 r t ∙ sym (number_of_test q r u)))
          pick true false t u = omega arith
          pick false true t u = refl
          pick false false t u = refl

-- ---- calls of terms

module _ {X Y : Type 0} (f : X → Y) (h : Y → ℕ) where
  pub sum_mapped_more : (xs : List X) (i : ℕ) (x : X) → i < length xs → x ≡ get_or xs i x → sum_of h (map f (take (i + 1) xs)) ≡ sum_of h (map f (take i xs)) + h (f x)
  sum_mapped_more xs i x low at =
      ap (λ ys. sum_of h (map f ys)) (take_more xs i x low ∙ ap (λ z. take i xs ++ z ∷ []) (sym at))
      ∙ (ap (sum_of h) (map-append f (take i xs) (x ∷ [])) ∙ sum_push h (map f (take i xs)) (f x))

module _ {M : Type 0} (q k : ℕ) where
  pub calls_in_list : (ps : List (Term Head M)) → calls_in q k (parts_of ps) ≡ calls_of q k ps
  calls_in_list [] = refl
  calls_in_list (p ∷ ps) = ap (λ n. calls q k p + n) (calls_in_list ps)

  pub calls_of_node : (term : Written M) (c : ℕ) (m : M) (parts : Vec (Written M) Global) → term ≡ Node c m parts → calls q k (plain_term term) ≡ calls_of q k (map plain_term parts.items)
  calls_of_node term c m parts e = ap (λ t. calls q k (plain_term t)) e ∙ (ap (calls_in q k) (parts_are parts) ∙ calls_in_list (map plain_term parts.items))

-- ---- entries, one of which was taken

set_contains : {X : Type 0} (xs : List X) (i : ℕ) (z e : X) → Contains (set xs i z) e → (e ≡ z) ⊎ Contains xs e
set_contains [] i z e c = inr c
set_contains (x ∷ xs) zero z e (zero, l, is) = inl (sym is)
set_contains (x ∷ xs) zero z e (suc k, l, is) = inr (suc k, l, is)
set_contains (x ∷ xs) (suc i) z e (zero, l, is) = inr (zero, omega arith, is)
set_contains (x ∷ xs) (suc i) z e (suc k, l, is) = elim (set_contains xs i z e (k, omega (arith, l), is)) [ inl g ↦ inl g | inr c ↦ inr (suc c.0, omega (arith, c.1), c.2) ]

module _ {V : Type 0} where
  pub still_found : (old : List (Entry V)) (i : ℕ) (x z : Entry V) → i < length old → x ≡ get_or old i x → z.state ≡ x.state → z.uses + 1 ≡ x.uses → (0 < z.uses → z.listing ≡ x.listing) → AreStillFound old (set old i z)
  still_found old i x z low at s n l e c u = elim (set_contains old i z e c) [
    | inl g ↦ (x, (i, low, sym at), sym s ∙ ap (λ y. y.state) (sym g), omega (arith, n), ap (λ y. y.listing) g ∙ l (subst (λ y. 0 < y.uses) g u))
    | inr d ↦ (e, d, refl, u, refl)
  ]
