-- What formulas are once a map's entries are put for the fields.
use Rattle.std.specs.Prelude.{◌≡◌, ℤ, Bool, List, map, All, Contains}
use Rattle.model_tree.specs.Label.{Label}
use Rattle.model_tree.specs.Formula as plain
use Rattle.model_tree.specs.Formula.{formula_holds, EveryAtom, all_of, formulas_of}
use Rattle.label_core.specs.Formula.{plain_formula, atoms_in}
use Rattle.label_core.specs.Maps.{IsPut}
use Rattle.label_core.specs.Meaning.{Meaning}
use Rattle.label_core.specs.declared.formula.Formula.{Formula}
use Rattle.label_core.specs.declared.labels.Put.{Put}
use Rattle.label_core.specs.declared.labels.Put.TheVariants as put

-- the formula is over the labels of a theory value that a map is into
module _ {T A : Type 0} (is_into : T → Type 0) (fits : T → A → Type 0) where
  pub record IsOverMade (f : plain.Formula A) : Type 0 where
    pub made : T
    pub into : is_into made
    pub fit : EveryAtom (fits made) f

-- so by some atom of the formula
abbrev pub OfSome : {A X : Type 0} → (A → X → Type 0) → plain.Formula A → X → Type 0
OfSome {A} of_atom f x = (a : A) × Contains (atoms_in f) a × of_atom a x

-- so by some atom of one of the formulas
abbrev pub OfSomePart : {A X : Type 0} → (A → X → Type 0) → List (Formula A) → X → Type 0
OfSomePart of_atom parts = OfSome of_atom (all_of (formulas_of (map plain_formula parts)))

-- what is made of the formula; so by its atoms
module _ {A V W : Type 0} {label_of : V → Label} {holds : A → Label → Bool} (M : Meaning label_of holds W) (fits : A → Type 0) (of_kind : A → A → Type 0) (outside : A → ℤ → Type 0) (says : A → Label → Bool) where
  abbrev pub IsPutFor : plain.Formula A → Put A → Type 0
  IsPutFor f = IsPut M fits (OfSome of_kind f) (OfSome outside f) (λ l. formula_holds (λ a. says a l) f)

-- the second is the first one's denial, or the same number
abbrev pub IsDenied : {A : Type 0} → Put A → Put A → Type 0
IsDenied {A} (put.Formula f) r = (g : Formula A) × (r ≡ put.Formula g) × (plain_formula g ≡ plain.negation (plain_formula f))
IsDenied (put.Range n) r = r ≡ put.Range n

-- what is made of each formula, of which all have these parts
module _ {A V W : Type 0} {label_of : V → Label} {holds : A → Label → Bool} (M : Meaning label_of holds W) (fits : A → Type 0) (of_kind : A → A → Type 0) (outside : A → ℤ → Type 0) (says : A → Label → Bool) (all : List (Formula A)) where
  pub record AreEachPut (parts made : List (Formula A)) : Type 0 where
    pub hold : (l : Label) → M.has l → map (λ f. formula_holds (λ a. holds a l) (plain_formula f)) made ≡ map (λ f. formula_holds (λ a. says a l) (plain_formula f)) parts
    pub fit : All (λ f. EveryAtom fits (plain_formula f)) made
    pub of_parts : All (λ f. EveryAtom (OfSomePart of_kind all) (plain_formula f)) made
    pub none : All (λ f. (n : ℤ) → OfSome outside (plain_formula f) n → ⊥) parts
