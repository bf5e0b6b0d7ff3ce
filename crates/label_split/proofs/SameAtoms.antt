-- Facts on atoms up to their own equality.
use Rattle.std.proofs.Common.{◌≡◌, Bool, true, false, ◌||◌, IsTrue, List, [], ◌∷◌, ◌++◌, All, get_or, suc, refl, sym, ap, ◌∙◌, arith}
use Rattle.std.specs.List.{list_any}
use Rattle.std.specs.Cmp.{IsEquivalence}
use Rattle.std.proofs.lemmas.List.Elements.{All-nil, All-cons, All-append}
use Rattle.std.proofs.lemmas.List.Folds.{list_any-append}
use Rattle.model_tree.specs.Formula as plain
use Rattle.model_tree.specs.Formula.{yes, no, atom, negation, all_of, some_of, no_formulas, formula, EveryAtom, EveryAtomOfAll}
use Rattle.label_core.specs.Atoms.{has_equal, EachHasEqual}
use Rattle.label_core.specs.Formula.{plain_formula, atoms_in, atoms_in_all}
use Rattle.label_core.specs.declared.formula.Formula.{Formula}
use Rattle.label_split.specs.Signs.{atoms_in_each, FormulasFit}

or_true : (b : Bool) → (b || true) ≡ true
or_true true = refl
or_true false = refl

either_true : (a b : Bool) → a ≡ true → IsTrue (a || b)
either_true true b h = refl
either_true false b h = cc

other_true : (a b : Bool) → IsTrue b → IsTrue (a || b)
other_true true b h = refl
other_true false b h = h

pub or_none : (b : Bool) → (b || false) ≡ b
or_none true = refl
or_none false = refl

pub or_assoc : (a b c : Bool) → ((a || b) || c) ≡ (a || (b || c))
or_assoc true b c = refl
or_assoc false b c = refl

module _ {A : Type 0} (eq : A → A → Bool) (laws : IsEquivalence eq) where
  -- equal atoms have equal ones together
  same_there : (xs : List A) (x y : A) → eq x y ≡ true → has_equal eq xs x ≡ has_equal eq xs y
  same_there xs x y e = λ i. list_any (λ z. laws.congr x y z e i) xs

  there : (xs : List A) (x a : A) (b : Bool) → eq a x ≡ b → has_equal eq xs x ≡ true → has_equal eq xs a ≡ (has_equal eq xs a || b)
  there xs x a true e h = same_there xs a x e ∙ h ∙ sym (or_true (has_equal eq xs a))
  there xs x a false e h = sym (or_none (has_equal eq xs a))

  -- an atom that has an equal one already
  pub atom_is_there : (xs : List A) (x a : A) → has_equal eq xs x ≡ true → has_equal eq xs a ≡ (has_equal eq xs a || eq a x)
  atom_is_there xs x a h = there xs x a (eq a x) refl h

  same_at : (x copy a : A) → eq copy x ≡ true → eq a copy ≡ eq a x
  same_at x copy a e = laws.symm a copy ∙ laws.congr copy x a e ∙ laws.symm x a

  pub atom_is_last : (xs : List A) (x copy a : A) → eq copy x ≡ true → has_equal eq (xs ++ copy ∷ []) a ≡ (has_equal eq xs a || eq a x)
  atom_is_last xs x copy a e = list_any-append (eq a) xs (copy ∷ []) ∙ ap (λ b. has_equal eq xs a || b) (or_none (eq a copy) ∙ same_at x copy a e)

module _ {A : Type 0} (P : A → Type 0) where
  front : (xs ys : List A) → All P (xs ++ ys) → All P xs
  front [] ys h = All-nil P
  front (x ∷ xs) ys h = All-cons P x xs (h 0 x (omega arith)) (front xs ys (λ k d b. h (suc k) d (omega (arith, b))))

  back : (xs ys : List A) → All P (xs ++ ys) → All P ys
  back [] ys h = h
  back (x ∷ xs) ys h = back xs ys (λ k d b. h (suc k) d (omega (arith, b)))

  mutual
    pub every_atom : (f : plain.Formula A) → All P (atoms_in f) → EveryAtom P f
    every_atom yes h = tt
    every_atom no h = tt
    every_atom (atom a) h = h 0 a (omega arith)
    every_atom (negation f) h = every_atom f h
    every_atom (all_of fs) h = every_atom_of_all fs h
    every_atom (some_of fs) h = every_atom_of_all fs h

    every_atom_of_all : (fs : plain.Formulas A) → All P (atoms_in_all fs) → EveryAtomOfAll P fs
    every_atom_of_all no_formulas h = tt
    every_atom_of_all (formula f fs) h = (every_atom f (front (atoms_in f) (atoms_in_all fs) h), every_atom_of_all fs (back (atoms_in f) (atoms_in_all fs) h))

  mutual
    pub all_atoms : (f : plain.Formula A) → EveryAtom P f → All P (atoms_in f)
    all_atoms yes h = All-nil P
    all_atoms no h = All-nil P
    all_atoms (atom a) h = All-cons P a [] h (All-nil P)
    all_atoms (negation f) h = all_atoms f h
    all_atoms (all_of fs) h = all_atoms_of_all fs h
    all_atoms (some_of fs) h = all_atoms_of_all fs h

    all_atoms_of_all : (fs : plain.Formulas A) → EveryAtomOfAll P fs → All P (atoms_in_all fs)
    all_atoms_of_all no_formulas h = All-nil P
    all_atoms_of_all (formula f fs) h = All-append P (atoms_in f) (atoms_in_all fs) (all_atoms f h.0) (all_atoms_of_all fs h.1)

  -- what holds of each atom of each formula, both ways
  pub every_atom_of_each : (fs : List (Formula A)) → All P (atoms_in_each fs) → FormulasFit P fs
  every_atom_of_each [] h = All-nil (λ f. EveryAtom P (plain_formula f))
  every_atom_of_each (f ∷ fs) h = All-cons (λ f. EveryAtom P (plain_formula f)) f fs (every_atom (plain_formula f) (front (atoms_in (plain_formula f)) (atoms_in_each fs) h)) (every_atom_of_each fs (back (atoms_in (plain_formula f)) (atoms_in_each fs) h))

  pub all_atoms_of_each : (fs : List (Formula A)) → FormulasFit P fs → All P (atoms_in_each fs)
  all_atoms_of_each [] h = All-nil P
  all_atoms_of_each (f ∷ fs) h = All-append P (atoms_in (plain_formula f)) (atoms_in_each fs) (all_atoms (plain_formula f) (h 0 f (omega arith))) (all_atoms_of_each fs (λ k d b. h (suc k) d (omega (arith, b))))

module _ {A : Type 0} (eq : A → A → Bool) where
  fits_by : (F : A → Type 0) → ((a b : A) → eq a b ≡ true → F b → F a) → (b : A) (bs : List A) (a : A) (s : Bool) → eq a b ≡ s → F b → (IsTrue (has_equal eq bs a) → F a) → IsTrue (s || has_equal eq bs a) → F a
  fits_by F same b bs a true e f rest h = same a b e f
  fits_by F same b bs a false e f rest h = rest h

  pub equal_fits : (F : A → Type 0) → ((a b : A) → eq a b ≡ true → F b → F a) → (bs : List A) → All F bs → (a : A) → IsTrue (has_equal eq bs a) → F a
  equal_fits F same [] h a e = cc
  equal_fits F same (b ∷ bs) h a e = fits_by F same b bs a (eq a b) refl (h 0 b (omega arith)) (equal_fits F same bs (λ k d l. h (suc k) d (omega (arith, l))) a) e

  pub own_equal : IsEquivalence eq → (bs : List A) → EachHasEqual eq bs bs
  own_equal laws [] = All-nil (λ a. IsTrue (has_equal eq [] a))
  own_equal laws (b ∷ bs) = All-cons (λ a. IsTrue (has_equal eq (b ∷ bs) a)) b bs (either_true (eq b b) (has_equal eq bs b) (laws.refl b)) (λ k d l. other_true (eq (get_or bs k d) b) (has_equal eq bs (get_or bs k d)) (own_equal laws bs k d l))
