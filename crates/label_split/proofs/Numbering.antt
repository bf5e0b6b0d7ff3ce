-- A formula over numbers says what the formula says.
use Rattle.std.proofs.Common.{◌≡◌, Bool, true, false, not, ◌&&◌, ◌||◌, IsTrue, List, [], ◌∷◌, map, length, get_or, ℕ, suc, ◌<◌, All, refl, sym, ap, ap₂, ◌∙◌, subst, arith}
use Rattle.std.proofs.lemmas.List.Elements.{All-nil, All-cons}
use Rattle.model_tree.specs.Label.{Label}
use Rattle.model_tree.specs.Formula.{Formula, yes, no, atom, negation, all_of, some_of, Formulas, no_formulas, formula, formulas_of, formula_holds, all_hold, some_hold, EveryAtom, EveryAtomOfAll}
use Rattle.std.specs.Cmp.{IsEquivalence}
use Rattle.std.proofs.lemmas.List.{length-map}
use Rattle.label_core.specs.Atoms.{has_equal, EachHasEqual}
use Rattle.label_core.specs.Formula.{plain_formula}
use Rattle.label_core.specs.declared.formula.Formula.{Formula as Written}
use Rattle.label_split.specs.Known.{IsWithin, truth_at}
use Rattle.label_split.specs.Signs.{atoms_in_each, FormulasFit, signs_at}
use Rattle.label_split.proofs.SameAtoms.{every_atom_of_each, all_atoms_of_each, own_equal, equal_fits}
use Rattle.label_split.specs.Numbers.{place, numbered, all_numbered, truths_at, number_holds}

module _ {A : Type 0} (eq : A → A → Bool) where
  low_by : (x : A) (xs : List A) (a : A) (b : Bool) → eq a x ≡ b → IsTrue (eq a x || has_equal eq xs a) → (IsTrue (has_equal eq xs a) → place eq xs a < length xs) → place eq (x ∷ xs) a < length (x ∷ xs)
  low_by x xs a true e h rest = rw e (omega arith)
  low_by x xs a false e h rest = rw e (let low : place eq xs a < length xs = rest (subst (λ b. IsTrue (b || has_equal eq xs a)) e h) in omega arith)

  place_low : (atoms : List A) (a : A) → IsTrue (has_equal eq atoms a) → place eq atoms a < length atoms
  place_low [] a h = cc
  place_low (x ∷ xs) a h = low_by x xs a (eq a x) refl h (place_low xs a)

  module _ (holds : A → Label → Bool) (equal : (a b : A) (l : Label) → eq a b ≡ true → holds a l ≡ holds b l) where
    truth_by : (x : A) (xs : List A) (a : A) (l : Label) (b : Bool) → eq a x ≡ b → IsTrue (eq a x || has_equal eq xs a) → (IsTrue (has_equal eq xs a) → number_holds holds xs (place eq xs a) l ≡ holds a l) → number_holds holds (x ∷ xs) (place eq (x ∷ xs) a) l ≡ holds a l
    truth_by x xs a l true e h rest = rw e (sym (equal a x l e))
    truth_by x xs a l false e h rest =
        let step : place eq (x ∷ xs) a ≡ suc (place eq xs a) = rw e (omega arith) in
        ap (λ n. truth_at (truths_at holds (x ∷ xs) l) n) step ∙ rest (subst (λ b. IsTrue (b || has_equal eq xs a)) e h)

    place_truth : (atoms : List A) (a : A) (l : Label) → IsTrue (has_equal eq atoms a) → number_holds holds atoms (place eq atoms a) l ≡ holds a l
    place_truth [] a l h = cc
    place_truth (x ∷ xs) a l h = truth_by x xs a l (eq a x) refl h (place_truth xs a l)

    module _ (atoms : List A) (l : Label) where
      mutual
        same_truth : (f : Formula A) → EveryAtom (λ a. IsTrue (has_equal eq atoms a)) f → formula_holds (truth_at (truths_at holds atoms l)) (numbered eq atoms f) ≡ formula_holds (λ a. holds a l) f
        same_truth yes h = refl
        same_truth no h = refl
        same_truth (atom a) h = place_truth atoms a l h
        same_truth (negation f) h = ap not (same_truth f h)
        same_truth (all_of fs) h = same_all fs h
        same_truth (some_of fs) h = same_some fs h

        same_all : (fs : Formulas A) → EveryAtomOfAll (λ a. IsTrue (has_equal eq atoms a)) fs → all_hold (truth_at (truths_at holds atoms l)) (all_numbered eq atoms fs) ≡ all_hold (λ a. holds a l) fs
        same_all no_formulas h = refl
        same_all (formula f fs) h = λ i. same_truth f h.0 i && same_all fs h.1 i

        same_some : (fs : Formulas A) → EveryAtomOfAll (λ a. IsTrue (has_equal eq atoms a)) fs → some_hold (truth_at (truths_at holds atoms l)) (all_numbered eq atoms fs) ≡ some_hold (λ a. holds a l) fs
        same_some no_formulas h = refl
        same_some (formula f fs) h = λ i. same_truth f h.0 i || same_some fs h.1 i

  module _ (atoms : List A) where
    mutual
      within : (f : Formula A) → EveryAtom (λ a. IsTrue (has_equal eq atoms a)) f → EveryAtom (λ i. i < length atoms) (numbered eq atoms f)
      within yes h = tt
      within no h = tt
      within (atom a) h = place_low atoms a h
      within (negation f) h = within f h
      within (all_of fs) h = within_all fs h
      within (some_of fs) h = within_all fs h

      within_all : (fs : Formulas A) → EveryAtomOfAll (λ a. IsTrue (has_equal eq atoms a)) fs → EveryAtomOfAll (λ i. i < length atoms) (all_numbered eq atoms fs)
      within_all no_formulas h = tt
      within_all (formula f fs) h = (within f h.0, within_all fs h.1)

    pub numbered_parts : (fs : List (Written A)) → all_numbered eq atoms (formulas_of (map plain_formula fs)) ≡ formulas_of (map (λ f. numbered eq atoms (plain_formula f)) fs)
    numbered_parts [] = refl
    numbered_parts (f ∷ fs) = ap (formula (numbered eq atoms (plain_formula f))) (numbered_parts fs)

    -- of a list of formulas
    pub all_within : (fs : List (Written A)) (made : List (Written ℕ)) → map plain_formula made ≡ map (λ f. numbered eq atoms (plain_formula f)) fs → FormulasFit (λ a. IsTrue (has_equal eq atoms a)) fs → All (IsWithin (length atoms)) made
    all_within [] [] e h = All-nil (IsWithin (length atoms))
    all_within [] (g ∷ gs) e h = cc
    all_within (f ∷ fs) [] e h = cc
    all_within (f ∷ fs) (g ∷ gs) e h =
        let head : plain_formula g ≡ numbered eq atoms (plain_formula f) = cc in
        let tail : map plain_formula gs ≡ map (λ f. numbered eq atoms (plain_formula f)) fs = cc in
        All-cons (IsWithin (length atoms)) g gs (subst (EveryAtom (λ i. i < length atoms)) (sym head) (within (plain_formula f) (h 0 f (omega arith)))) (all_within fs gs tail (λ k d b. h (suc k) d (omega (arith, b))))

    pub same_signs : (holds : A → Label → Bool) → ((a b : A) (l : Label) → eq a b ≡ true → holds a l ≡ holds b l) → (fs : List (Written A)) (made : List (Written ℕ)) (l : Label) → map plain_formula made ≡ map (λ f. numbered eq atoms (plain_formula f)) fs → FormulasFit (λ a. IsTrue (has_equal eq atoms a)) fs
        → signs_at (number_holds holds atoms) made l ≡ signs_at holds fs l
    same_signs holds equal [] [] l e h = refl
    same_signs holds equal [] (g ∷ gs) l e h = cc
    same_signs holds equal (f ∷ fs) [] l e h = cc
    same_signs holds equal (f ∷ fs) (g ∷ gs) l e h =
        let head : plain_formula g ≡ numbered eq atoms (plain_formula f) = cc in
        let tail : map plain_formula gs ≡ map (λ f. numbered eq atoms (plain_formula f)) fs = cc in
        ap₂ (λ x xs. x ∷ xs) (ap (formula_holds (truth_at (truths_at holds atoms l))) head ∙ same_truth holds equal atoms l (plain_formula f) (h 0 f (omega arith))) (same_signs holds equal fs gs l tail (λ k d b. h (suc k) d (omega (arith, b))))

-- the formulas of numbers are over the atoms that were gathered
pub gathered : {A : Type 0} (eq : A → A → Bool) → IsEquivalence eq → (fs : List (Written A)) (atoms : List A) → ((a : A) → has_equal eq atoms a ≡ has_equal eq (atoms_in_each fs) a) → FormulasFit (λ a. IsTrue (has_equal eq atoms a)) fs
gathered eq laws fs atoms are = every_atom_of_each (λ a. IsTrue (has_equal eq atoms a)) fs (λ k d low. subst IsTrue (sym (are (get_or (atoms_in_each fs) k d))) (own_equal eq laws (atoms_in_each fs) k d low))

pub atoms_fit : {A : Type 0} (eq : A → A → Bool) → IsEquivalence eq → (fits : A → Type 0) → ((a b : A) → eq a b ≡ true → fits a → fits b) → (fs : List (Written A)) (atoms : List A) → ((a : A) → has_equal eq atoms a ≡ has_equal eq (atoms_in_each fs) a) → FormulasFit fits fs → All fits atoms
atoms_fit eq laws fits same fs atoms are h = λ k d low. equal_fits eq fits (λ b c s. same c b (laws.symm c b ∙ s)) (atoms_in_each fs) (all_atoms_of_each fits fs h) (get_or atoms k d) (subst IsTrue (are (get_or atoms k d)) (own_equal eq laws atoms k d low))

pub atoms_among : {A : Type 0} (eq : A → A → Bool) → IsEquivalence eq → (fs : List (Written A)) (atoms : List A) → ((a : A) → has_equal eq atoms a ≡ has_equal eq (atoms_in_each fs) a) → EachHasEqual eq atoms (atoms_in_each fs)
atoms_among eq laws fs atoms are = λ k d low. subst IsTrue (are (get_or atoms k d)) (own_equal eq laws atoms k d low)

pub same_length : {A : Type 0} (eq : A → A → Bool) (atoms : List A) (fs : List (Written A)) (made : List (Written ℕ)) → map plain_formula made ≡ map (λ f. numbered eq atoms (plain_formula f)) fs → length made ≡ length fs
same_length eq atoms fs made e = sym (length-map made plain_formula) ∙ ap length e ∙ length-map fs (λ f. numbered eq atoms (plain_formula f))
