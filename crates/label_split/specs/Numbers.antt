-- Formulas over the numbers of their atoms in a list.
use Rattle.std.specs.Prelude.{◌≡◌, ◌<◌, ◌++◌, ◌||◌, ℕ, Bool, false, Option, Some, List, map, length, All, slice_index_or}
use Rattle.std.specs.List.{position_or_len}
use Rattle.model_tree.specs.Label.{Label}
use Rattle.model_tree.specs.Formula.{Formula, yes, no, atom, negation, all_of, some_of, Formulas, no_formulas, formula}
use Rattle.label_core.specs.declared.formula.Formula.{Formula as Written}
use Rattle.std.specs.Cmp.{IsEquivalence}
use Rattle.label_core.specs.Atoms.{EachHasEqual, has_equal}
use Rattle.label_core.specs.Formula.{plain_formula, atoms_in}
use Rattle.label_core.specs.Lit.{SatisfiesAll, LitsFit, atoms_of}
use Rattle.label_core.specs.declared.theory.Lit.{Lit}
use Rattle.label_split.specs.Signs.{atoms_in_each}
use Rattle.label_split.specs.Known.{IsWithin, Follows, truth_at, holds_at, settled}

module _ {A : Type 0} (eq : A → A → Bool) (atoms : List A) where
  -- the number of the first atom that is equal
  abbrev pub place : A → ℕ
  place a = position_or_len (eq a) atoms

  abbrev mutual
    pub numbered : Formula A → Formula ℕ
    numbered yes = yes
    numbered no = no
    numbered (atom a) = atom (place a)
    numbered (negation f) = negation (numbered f)
    numbered (all_of fs) = all_of (all_numbered fs)
    numbered (some_of fs) = some_of (all_numbered fs)

    pub all_numbered : Formulas A → Formulas ℕ
    all_numbered no_formulas = no_formulas
    all_numbered (formula f fs) = formula (numbered f) (all_numbered fs)

module _ {A : Type 0} (eq : A → A → Bool) where
  -- these atoms came to the others, unless equal ones were there; what was made has their numbers, whatever atoms come later
  pub record AreNumbered {X : Type 0} (old new atoms : List A) (made : X) (numbers : List A → X) : Type 0 where
    pub grown : (added : List A) × (new ≡ old ++ added)
    pub gathered : (a : A) → has_equal eq new a ≡ (has_equal eq old a || has_equal eq atoms a)
    pub numbers_are : (later : List A) → made ≡ numbers (new ++ later)

  abbrev pub IsNumbered : List A → List A → Formula A → Written ℕ → Type 0
  IsNumbered old new f made = AreNumbered old new (atoms_in f) (plain_formula made) (λ keys. numbered eq keys f)

  abbrev pub EachNumbered : List A → List A → List (Written A) → List (Written ℕ) → Type 0
  EachNumbered old new fs made = AreNumbered old new (atoms_in_each fs) (map plain_formula made) (λ keys. map (λ f. numbered eq keys (plain_formula f)) fs)

-- the truth values of the atoms at a label, and that of the atom with a number
abbrev pub truths_at : {A : Type 0} → (A → Label → Bool) → List A → Label → List Bool
truths_at holds atoms l = map (λ a. holds a l) atoms

abbrev pub number_holds : {A : Type 0} → (A → Label → Bool) → List A → ℕ → Label → Bool
number_holds holds atoms i l = truth_at (truths_at holds atoms l) i

-- formulas over the numbers of so many atoms, and a sign for each
pub record AreAsked (n : ℕ) (formulas : List (Written ℕ)) (signs : List Bool) : Type 0 where
  pub within : All (IsWithin n) formulas
  pub lengths : length signs ≡ length formulas

-- the formulas have the signs where the atoms have these truth values
abbrev pub HaveSigns : List (Written ℕ) → List Bool → List Bool → Type 0
HaveSigns formulas signs truths = map (holds_at truths) formulas ≡ signs

-- a formula that isn't settled to have its sign
pub record IsUnsettled (formulas : List (Written ℕ)) (signs : List Bool) (known : List (Option Bool)) (k : ℕ) : Type 0 where
  pub low : k < length formulas
  pub unsettled : (d : Written ℕ) → ¬ (settled known (slice_index_or formulas k d) ≡ Some (slice_index_or signs k false))

-- a formula that has another sign where the atoms have these truth values
pub record IsWrong (formulas : List (Written ℕ)) (signs truths : List Bool) (k : ℕ) : Type 0 where
  pub low : k < length formulas
  pub other : (d : Written ℕ) → ¬ (holds_at truths (slice_index_or formulas k d) ≡ slice_index_or signs k false)

-- literals over some of the atoms that say what is known of them
pub record AreLiterals {A : Type 0} (fits : A → Type 0) (holds : A → Label → Bool) (atoms : List A) (known : List (Option Bool)) (literals : List (Lit A)) : Type 0 where
  pub say : (l : Label) → SatisfiesAll holds literals l → Follows known (truths_at holds atoms l)
  pub said : (l : Label) → Follows known (truths_at holds atoms l) → SatisfiesAll holds literals l
  pub fit : All fits atoms → LitsFit fits literals
  pub among : (eq : A → A → Bool) → IsEquivalence eq → EachHasEqual eq (atoms_of literals) atoms
