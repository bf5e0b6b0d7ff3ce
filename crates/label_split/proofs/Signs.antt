-- Facts on rows of signs.
use Rattle.std.proofs.Common.{map, drop, length-append, ◌≡◌, Bool, true, IsTrue, All, replicate, List, [], ◌∷◌, ◌++◌, take, length, get_or, ℕ, zero, suc, ◌+◌, ◌-◌, ◌<◌, refl, sym, ap, ap₂, ◌∙◌, subst, arith}
use Rattle.std.proofs.lemmas.List.{take_more, map-append, take_all, length-map, drop-map, drop_at, length-drop, length-take-le}
use Rattle.std.proofs.lemmas.List.Elements.{All-nil, All-cons, All-drop}
use Rattle.model_tree.specs.Label.{Label}
use Rattle.model_tree.specs.Formula.{formula_holds}
use Rattle.label_core.specs.Formula.{plain_formula}
use Rattle.label_core.specs.declared.formula.Formula.{Formula}
use Rattle.label_split.specs.Known.{holds_at, IsWithin}
use Rattle.label_split.specs.Numbers.{AreAsked}
use Rattle.label_split.specs.Signs.{signs_at}

module _ {A : Type 0} (holds : A → Label → Bool) where
  -- the signs of all but the last formula, and one more
  pub one_sign_more : (fs : List (Formula A)) (signs : List Bool) (l : Label) → 0 < length fs → signs ≡ signs_at holds (take (length fs - 1) fs) l → length signs + 1 ≡ length fs
  one_sign_more fs signs l some is =
      let many = ap length is ∙ length-map (take (length fs - 1) fs) (λ f. formula_holds (λ a. holds a l) (plain_formula f)) in
      let taken = length-take-le (length fs - 1) fs (omega arith) in
      omega (arith, many, taken, some)

  pub signs_append : (fs gs : List (Formula A)) (l : Label) → signs_at holds (fs ++ gs) l ≡ signs_at holds fs l ++ signs_at holds gs l
  signs_append fs gs l = map-append (λ f. formula_holds (λ a. holds a l) (plain_formula f)) fs gs

  pub signs_of_more : (fs : List (Formula A)) (i : ℕ) (f : Formula A) (l : Label) → i < length fs → f ≡ get_or fs i f → signs_at holds (take (i + 1) fs) l ≡ signs_at holds (take i fs) l ++ formula_holds (λ a. holds a l) (plain_formula f) ∷ []
  signs_of_more fs i f l b e = ap (λ gs. signs_at holds gs l) (take_more fs i f b ∙ ap (λ g. take i fs ++ g ∷ []) (sym e)) ∙ signs_append (take i fs) (f ∷ []) l

module _ {A : Type 0} (holds : A → Label → Bool) where
  -- all signs are true exactly where all formulas hold
  pub all_from_signs : (fs : List (Formula A)) (l : Label) (bs : List Bool) → bs ≡ replicate (length fs) true → signs_at holds fs l ≡ bs → All (λ f. IsTrue (formula_holds (λ a. holds a l) (plain_formula f))) fs
  all_from_signs [] l bs e h = All-nil (λ f. IsTrue (formula_holds (λ a. holds a l) (plain_formula f)))
  all_from_signs (f ∷ fs) l bs e h =
      let both : signs_at holds (f ∷ fs) l ≡ true ∷ replicate (length fs) true = h ∙ e in
      let first : formula_holds (λ a. holds a l) (plain_formula f) ≡ true = cc in
      let others : signs_at holds fs l ≡ replicate (length fs) true = cc in
      All-cons (λ f. IsTrue (formula_holds (λ a. holds a l) (plain_formula f))) f fs first (all_from_signs fs l (replicate (length fs) true) refl others)

  pub signs_from_all : (fs : List (Formula A)) (l : Label) (bs : List Bool) → bs ≡ replicate (length fs) true → All (λ f. IsTrue (formula_holds (λ a. holds a l) (plain_formula f))) fs → signs_at holds fs l ≡ bs
  signs_from_all [] l bs e h = sym e
  signs_from_all (f ∷ fs) l bs e h = ap₂ (λ x xs. x ∷ xs) (h 0 f (omega arith)) (signs_from_all fs l (replicate (length fs) true) refl (λ k d b. h (suc k) d (omega (arith, b)))) ∙ sym e

  back : (n : ℕ) → 0 < n → n ≡ (n - 1) + 1
  back n some = omega arith

  pub last_sign : (fs : List (Formula A)) (f : Formula A) (l : Label) → 0 < length fs → f ≡ get_or fs (length fs - 1) f → signs_at holds fs l ≡ signs_at holds (take (length fs - 1) fs) l ++ formula_holds (λ a. holds a l) (plain_formula f) ∷ []
  last_sign fs f l some is =
      ap (λ gs. signs_at holds gs l) (sym (take_all (length fs) fs (omega arith)) ∙ ap (λ n. take n fs) (back (length fs) some)) ∙ signs_of_more holds fs (length fs - 1) f l (omega (arith, some)) is

  -- the signs of the first formulas are the first of the signs
  pub signs_taken : (fs : List (Formula A)) (i : ℕ) (l : Label) → signs_at holds (take i fs) l ≡ take i (signs_at holds fs l)
  signs_taken [] zero l = refl
  signs_taken [] (suc i) l = refl
  signs_taken (f ∷ fs) zero l = refl
  signs_taken (f ∷ fs) (suc i) l = ap (λ xs. formula_holds (λ a. holds a l) (plain_formula f) ∷ xs) (signs_taken fs i l)

-- the sign of the last formula alone
pub last_signs : (truths : List Bool) (fs : List (Formula ℕ)) (before : List Bool) (s : Bool) → map (holds_at truths) fs ≡ before ++ s ∷ [] → map (holds_at truths) (drop (length fs - 1) fs) ≡ s ∷ []
last_signs truths fs before s e =
    let long : length before ≡ length fs - 1 = omega (arith, length-map fs (holds_at truths), ap length e, length-append before (s ∷ [])) in
    sym (drop-map (holds_at truths) (length fs - 1) fs) ∙ ap (drop (length fs - 1)) e ∙ drop_at before (s ∷ []) (length fs - 1) long

-- the last formula, as a part that ends where the formulas do
pub last_part : (fs : List (Formula ℕ)) → take (length fs - (length fs - 1)) (drop (length fs - 1) fs) ≡ drop (length fs - 1) fs
last_part fs = take_all (length fs - (length fs - 1)) (drop (length fs - 1) fs) (omega (arith, length-drop (length fs - 1) fs))

pub last_asked : (n : ℕ) (fs : List (Formula ℕ)) (sign : Bool) → All (IsWithin n) fs → 0 < length fs → AreAsked n (take (length fs - (length fs - 1)) (drop (length fs - 1) fs)) (sign ∷ [])
last_asked n fs sign within some = subst (λ part. AreAsked n part (sign ∷ [])) (sym (last_part fs)) (record { within = All-drop (IsWithin n) (length fs - 1) fs within; lengths = omega (arith, length-drop (length fs - 1) fs) })
