-- The list of the rows of signs that labels have, and what stops it.
use Rattle.std.specs.Prelude.{◌≡◌, ◌<◌, ℕ, Bool, List, [], ◌∷◌, ◌++◌, length, All, Contains, ⊤, ◌⊎◌}
use Rattle.std.specs.List.{AllPairs}
use Rattle.model_tree.specs.Label.{Label}
use Rattle.label_core.specs.Meaning.{Meaning, IsChainOver}
use Rattle.label_core.specs.declared.formula.Formula.{Formula}
use Rattle.label_split.specs.Signs.{atoms_in_each, signs_at}
use Rattle.label_split.specs.declared.rows.SignRow.{SignRow}
use Rattle.label_split.specs.declared.rows.SplitStop.{SplitStop}
use Rattle.label_split.specs.declared.rows.SplitStop.TheVariants.{TooMany, Wide, Memory}

module _ {A V W : Type 0} {label_of : V → Label} {holds : A → Label → Bool} (M : Meaning label_of holds W) where
  -- the value is of a kept label, and these are the signs there
  abbrev pub IsRow : (Label → List Bool) → SignRow V → Type 0
  IsRow signs r = M.keeps (label_of r.value) × (r.signs.items ≡ signs (label_of r.value))

  module _ (signs : Label → List Bool) where
    -- of the labels that the meaning has, exactly the rows of signs, each once, each with a value of a kept one
    pub record SplitsInto (rows : List (SignRow V)) : Type 0 where
      pub sound : All (IsRow signs) rows
      pub complete : (l : Label) → M.has l → (r : SignRow V) × Contains rows r × (r.signs.items ≡ signs l)
      pub apart : AllPairs (λ q r. ¬ (q.signs.items ≡ r.signs.items)) rows

    -- more than so many kept labels, of which no two have one row of signs
    abbrev pub HasMoreRows : ℕ → Type 0
    HasMoreRows most = (ls : List Label) × All M.keeps ls × AllPairs (λ l m. ¬ (signs l ≡ signs m)) ls × (most < length ls)

    -- some label of the meaning has a row of signs that no kept label has
    abbrev pub HasUnkeptRow : Type 0
    HasUnkeptRow = (l : Label) × M.has l × ((m : Label) → M.keeps m → ¬ (signs m ≡ signs l))

  -- what each stop shows: that there are too many rows, or a chain over the atoms that passes its width, which is far
  -- only where some row is of no kept label
  abbrev pub Stops : Type 0 → (Label → List Bool) → List A → SplitStop W → Type 0
  Stops many signs atoms TooMany = many
  Stops many signs atoms (Wide w) = (IsChainOver M atoms w × M.passes w) × (M.is_far w → HasUnkeptRow signs)
  Stops many signs atoms Memory = ⊤

  -- the same of the rows of formulas
  abbrev pub StopsFor : Type 0 → List (Formula A) → SplitStop W → Type 0
  StopsFor many formulas = Stops many (signs_at holds formulas) (atoms_in_each formulas)

  module _ (before after : Label → List Bool) where
    -- the rows after one more formula that begin with a row before it
    pub record AreLonger (row : SignRow V) (added : List (SignRow V)) : Type 0 where
      pub sound : All (IsRow after) added
      pub complete : (l : Label) → M.has l → row.signs.items ≡ before l → (r : SignRow V) × Contains added r × (r.signs.items ≡ after l)
      pub apart : AllPairs (λ q r. ¬ (q.signs.items ≡ r.signs.items)) added
      pub begin : All (λ r. (b : Bool) × (r.signs.items ≡ row.signs.items ++ b ∷ [])) added

    abbrev pub Extends : SignRow V → List (SignRow V) → List (SignRow V) → Type 0
    Extends row old new = (added : List (SignRow V)) × (new ≡ old ++ added) × AreLonger row added

    -- some rows before one more formula are still to be looked at, and the others have been
    pub record IsPartly (rest refined : List (SignRow V)) : Type 0 where
      pub rest_sound : All (IsRow before) rest
      pub rest_apart : AllPairs (λ q r. ¬ (q.signs.items ≡ r.signs.items)) rest
      pub sound : All (IsRow after) refined
      pub apart : AllPairs (λ q r. ¬ (q.signs.items ≡ r.signs.items)) refined
      pub complete : (l : Label) → M.has l → ((r : SignRow V) × Contains rest r × (r.signs.items ≡ before l)) ⊎ ((r : SignRow V) × Contains refined r × (r.signs.items ≡ after l))
      pub unlike : All (λ q. All (λ r. (b : Bool) → ¬ (r.signs.items ≡ q.signs.items ++ b ∷ [])) refined) rest
