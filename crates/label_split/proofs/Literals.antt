-- What is known as literals.
use Rattle.std.proofs.Common.{◌≡◌, Bool, true, false, ◌||◌, IsTrue, Contains, Option, Some, None, List, [], ◌∷◌, ◌++◌, length, get_or, ℕ, zero, suc, ◌+◌, ◌<◌, ◌≤◌, ◌⊎◌, inl, inr, refl, sym, ap, ◌∙◌, subst, All, arith}
use Rattle.std.proofs.Math.ListN.{get_or-eq_default}
use Rattle.std.proofs.lemmas.List.{map-append}
use Rattle.std.proofs.lemmas.Bool.{cases_eq}
use Rattle.std.proofs.lemmas.List.Elements.{All-nil, All-cons, All-append}
use Rattle.model_tree.specs.Label.{Label}
use Rattle.std.specs.Cmp.{IsEquivalence}
use Rattle.label_core.specs.Atoms.{has_equal, EachHasEqual}
use Rattle.label_core.specs.Lit.{SatisfiesAll, LitsFit, atoms_of}
use Rattle.label_core.specs.declared.theory.Lit.{Lit}
use Rattle.label_split.specs.Known.{Agrees, known_at, truth_at, Follows}
use Rattle.label_split.specs.Numbers.{truths_at, AreLiterals}

-- the literals say what is known of the first so many atoms
pub record AreFirst {A : Type 0} (holds : A → Label → Bool) (n : ℕ) (atoms : List A) (known : List (Option Bool)) (literals : List (Lit A)) : Type 0 where
  pub say : (l : Label) → SatisfiesAll holds literals l → (i : ℕ) → i < n → Agrees (known_at known i) (truth_at (truths_at holds atoms l) i)
  pub said : (l : Label) → Follows known (truths_at holds atoms l) → SatisfiesAll holds literals l
  pub among : All (Contains atoms) (atoms_of literals)

pub truth_of : {A : Type 0} (holds : A → Label → Bool) (atoms : List A) (l : Label) (i : ℕ) (a : A) → i < length atoms → a ≡ get_or atoms i a → truth_at (truths_at holds atoms l) i ≡ holds a l
truth_of holds [] l i a low is = absurd (omega arith)
truth_of holds (x ∷ xs) l zero a low is = ap (λ b. holds b l) (sym is)
truth_of holds (x ∷ xs) l (suc i) a low is = truth_of holds xs l i a (omega arith) is

below_next : (i n : ℕ) → i < n + 1 → (i < n) ⊎ (i ≡ n)
below_next i n low = by (cases_eq i n)
  where
    by : (i ≡ n) ⊎ (i ≡ n → ⊥) → (i < n) ⊎ (i ≡ n)
    by (inl e) = inr e
    by (inr other) = inl (omega arith)

pub below_or_not : (i n : ℕ) → (i < n) ⊎ (n ≤ i)
below_or_not i zero = inr (omega arith)
below_or_not zero (suc n) = inl (omega arith)
below_or_not (suc i) (suc n) = by (below_or_not i n)
  where
    by : (i < n) ⊎ (n ≤ i) → (suc i < suc n) ⊎ (suc n ≤ suc i)
    by (inl low) = inl (omega arith)
    by (inr high) = inr (omega arith)

module _ {A : Type 0} (holds : A → Label → Bool) (atoms : List A) (known : List (Option Bool)) where
  pub first_none : AreFirst holds 0 atoms known []
  first_none = record {
    say = λ l s i low. absurd (omega (arith, low));
    said = λ l f. All-nil (λ x. holds x.atom l ≡ x.sign);
    among = All-nil (Contains atoms);
  }

  unpush : (xs : List (Lit A)) (x : Lit A) (l : Label) → SatisfiesAll holds (xs ++ x ∷ []) l → SatisfiesAll holds xs l × (holds x.atom l ≡ x.sign)
  unpush [] x l s = (All-nil (λ y. holds y.atom l ≡ y.sign), s 0 x (omega arith))
  unpush (y ∷ ys) x l s =
      let rest = unpush ys x l (λ k d b. s (suc k) d (omega (arith, b))) in
      (All-cons (λ z. holds z.atom l ≡ z.sign) y ys (s 0 y (omega arith)) rest.0, rest.1)

  module _ (n : ℕ) (literals : List (Lit A)) (first : AreFirst holds n atoms known literals) where
    open_agrees : known_at known n ≡ None → (l : Label) → SatisfiesAll holds literals l → (i : ℕ) → (i < n) ⊎ (i ≡ n) → Agrees (known_at known i) (truth_at (truths_at holds atoms l) i)
    open_agrees unknown l s i (inl low) = first.say l s i low
    open_agrees unknown l s i (inr e) = subst (λ x. Agrees x (truth_at (truths_at holds atoms l) i)) (sym (ap (known_at known) e ∙ unknown)) tt

    pub first_open : known_at known n ≡ None → AreFirst holds (n + 1) atoms known literals
    first_open unknown = record {
      say = λ l s i low. open_agrees unknown l s i (below_next i n low);
      said = first.said;
      among = first.among;
    }

    module _ (a : A) (b : Bool) (low : n < length atoms) (is : a ≡ get_or atoms n a) (here : known_at known n ≡ Some b) where
      say_more : (l : Label) → SatisfiesAll holds literals l × (holds a l ≡ b) → (i : ℕ) → (i < n) ⊎ (i ≡ n) → Agrees (known_at known i) (truth_at (truths_at holds atoms l) i)
      say_more l s i (inl under) = first.say l s.0 i under
      say_more l s i (inr e) = subst (λ x. Agrees x (truth_at (truths_at holds atoms l) i)) (sym (ap (known_at known) e ∙ here)) (sym s.1 ∙ sym (truth_of holds atoms l n a low is) ∙ ap (truth_at (truths_at holds atoms l)) (sym e))

      said_here : (l : Label) → Follows known (truths_at holds atoms l) → holds a l ≡ b
      said_here l f = sym (truth_of holds atoms l n a low is) ∙ sym (subst (λ x. Agrees x (truth_at (truths_at holds atoms l) n)) here (f n))

      pub first_more : AreFirst holds (n + 1) atoms known (literals ++ record { atom = a; sign = b } ∷ [])
      first_more = record {
        say = λ l s i under. say_more l (unpush literals (record { atom = a; sign = b }) l s) i (below_next i n under);
        said = λ l f. All-append (λ x. holds x.atom l ≡ x.sign) literals (record { atom = a; sign = b } ∷ []) (first.said l f) (All-cons (λ x. holds x.atom l ≡ x.sign) (record { atom = a; sign = b }) [] (said_here l f) (All-nil (λ x. holds x.atom l ≡ x.sign)));
        among = subst (All (Contains atoms)) (sym (map-append (λ x. x.atom) literals (record { atom = a; sign = b } ∷ []))) (All-append (Contains atoms) (atoms_of literals) (a ∷ []) first.among (All-cons (Contains atoms) a [] (n, low, sym is) (All-nil (Contains atoms))));
      }

  module _ (fits : A → Type 0) where
    contained_fits : (a : A) → Contains atoms a → All fits atoms → fits a
    contained_fits a (n, low, e) h = subst fits e (h n a low)

    all_fit : (xs : List (Lit A)) → All (Contains atoms) (atoms_of xs) → All fits atoms → LitsFit fits xs
    all_fit [] h f = All-nil (λ x. fits x.atom)
    all_fit (x ∷ xs) h f = All-cons (λ x. fits x.atom) x xs (contained_fits x.atom (h 0 x.atom (omega arith)) f) (all_fit xs (λ k d l. h (suc k) d (omega (arith, l))) f)

  module _ (eq : A → A → Bool) (laws : IsEquivalence eq) where
    or_first : (a b : Bool) → a ≡ true → IsTrue (a || b)
    or_first true b h = refl
    or_first false b h = cc

    or_second : (a b : Bool) → IsTrue b → IsTrue (a || b)
    or_second true b h = refl
    or_second false b h = h

    found_in : (xs : List A) (a : A) (k : ℕ) → k < length xs → get_or xs k a ≡ a → IsTrue (has_equal eq xs a)
    found_in [] a k low e = absurd (omega arith)
    found_in (x ∷ xs) a zero low e = or_first (eq a x) (has_equal eq xs a) (subst (λ y. eq a y ≡ true) (sym e) (laws.refl a))
    found_in (x ∷ xs) a (suc k) low e = or_second (eq a x) (has_equal eq xs a) (found_in xs a k (omega arith) e)

    all_among : (those : List A) → All (Contains atoms) those → EachHasEqual eq those atoms
    all_among [] h = All-nil (λ a. IsTrue (has_equal eq atoms a))
    all_among (a ∷ those) h = All-cons (λ a. IsTrue (has_equal eq atoms a)) a those (by (h 0 a (omega arith))) (all_among those (λ k d l. h (suc k) d (omega (arith, l))))
      where
        by : Contains atoms a → IsTrue (has_equal eq atoms a)
        by (n, low, e) = found_in atoms a n low e

  module _ (n : ℕ) (literals : List (Lit A)) (first : AreFirst holds n atoms known literals) (high : length known ≤ n) where
    all_agree : (l : Label) → SatisfiesAll holds literals l → (i : ℕ) → (i < n) ⊎ (n ≤ i) → Agrees (known_at known i) (truth_at (truths_at holds atoms l) i)
    all_agree l s i (inl low) = first.say l s i low
    all_agree l s i (inr over) = subst (λ x. Agrees x (truth_at (truths_at holds atoms l) i)) (sym (let past : length known ≤ i = omega arith in get_or-eq_default known None past)) tt

    pub first_all : (fits : A → Type 0) → AreLiterals fits holds atoms known literals
    first_all fits = record {
      say = λ l s i. all_agree l s i (below_or_not i n);
      said = first.said;
      fit = all_fit fits literals first.among;
      among = λ eq laws. all_among eq laws (atoms_of literals) first.among;
    }
