-- What maps of labels give.
use Rattle.std.specs.Prelude.{◌≡◌, ◌⊎◌, ℤ, Bool, true, Contains}
use Rattle.model_tree.specs.Label.{Label, row, pair, whole}
use Rattle.model_tree.specs.Range.{IsLabelNumber}
use Rattle.model_tree.specs.Kept.{is_kept_label}
use Rattle.model_tree.specs.Formula.{formula_holds, EveryAtom}
use Rattle.label_core.specs.Formula.{plain_formula}
use Rattle.label_core.specs.Meaning.{Meaning}
use Rattle.label_core.specs.declared.labels.Applied.{Applied}
use Rattle.label_core.specs.declared.labels.Applied.TheVariants as applied
use Rattle.label_core.specs.declared.labels.Put.{Put}
use Rattle.label_core.specs.declared.labels.Put.TheVariants as put
use Rattle.label_core.specs.declared.labels.PutMap.{PutMap}
use Rattle.label_core.specs.declared.labels.PutMap.TheVariants as put_map

-- the number is one of the label's
abbrev pub HasNumber : Label → ℤ → Type 0
HasNumber (row fields) n = Contains fields (whole n)
HasNumber (pair l m) n = HasNumber l n ⊎ HasNumber m n

-- a value of the label, whose numbers all have 64 bits; or one of its numbers that doesn't
abbrev pub IsMade : {V : Type 0} → (V → Label) → Label → Applied V → Type 0
IsMade label_of l (applied.Value v) = (label_of v ≡ l) × (is_kept_label l ≡ true)
IsMade label_of l (applied.Range n) = HasNumber l n × (IsLabelNumber n → ⊥)

module _ {A V W : Type 0} {label_of : V → Label} {holds : A → Label → Bool} (M : Meaning label_of holds W) where
  -- a formula that holds of each label of the meaning exactly where it is asked, whose atoms fit and are of this kind, where no number is outside; or a number that is
  abbrev pub IsPut : (A → Type 0) → (A → Type 0) → (ℤ → Type 0) → (Label → Bool) → Put A → Type 0
  IsPut fits of_kind outside asked (put.Formula f) = ((l : Label) → M.has l → formula_holds (λ a. holds a l) (plain_formula f) ≡ asked l) × EveryAtom fits (plain_formula f) × EveryAtom of_kind (plain_formula f) × ((n : ℤ) → outside n → ⊥)
  IsPut fits of_kind outside asked (put.Range n) = outside n

  -- a map of this kind that makes of each label of the meaning what is asked, where no number is outside; or a number that is
  abbrev pub IsChained : {M : Type 0} → (M → Label → Label) → (M → Type 0) → (M → Type 0) → (ℤ → Type 0) → (Label → Label) → PutMap M → Type 0
  IsChained make of_kind fits outside asked (put_map.Map c) = ((l : Label) → M.has l → make c l ≡ asked l) × of_kind c × fits c × ((n : ℤ) → outside n → ⊥)
  IsChained make of_kind fits outside asked (put_map.Range n) = outside n
