-- Rows with notes, and samples for the last of some formulas.
use Rattle.std.specs.Prelude.{◌≡◌, Bool, Option, Some, None, Result, Ok, Err, ◌⊎◌, List, [], ◌∷◌, ◌++◌, map}
use Rattle.std.specs.Option.{MatchOption}
use Rattle.model_tree.specs.Label.{Label}
use Rattle.label_core.specs.Meaning.{Meaning}
use Rattle.label_core.specs.declared.theory.Verdict.{Verdict}
use Rattle.label_core.specs.declared.theory.Verdict.TheVariants.{Sat, Unsat, Wide}
use Rattle.label_split.specs.declared.rows.SignRow.{SignRow}
use Rattle.label_split.specs.declared.rows.Noted.{Noted}
use Rattle.label_split.specs.declared.rows.Sample.{Sample}
use Rattle.label_split.specs.declared.rows.Sample.TheVariants.{Nowhere, At, Unknown}
use Rattle.label_split.specs.declared.rows.SplitStop.{SplitStop}
use Rattle.label_split.specs.declared.rows.SplitStop.TheVariants.{TooMany, Wide as Chain, Memory}
use Rattle.label_split.specs.Split.{IsRow}

abbrev pub rows_of : {V : Type 0} → List (Noted V) → List (SignRow V)
rows_of noted = map (λ n. n.row) noted

-- no label has the sign at the end; or a row
module _ {A V W : Type 0} {label_of : V → Label} {holds : A → Label → Bool} (M : Meaning label_of holds W) where
  abbrev pub IsSample : (Label → List Bool) → Bool → Sample V → Type 0
  IsSample signs sign Nowhere = (l : Label) → M.has l → (before : List Bool) → ¬ (signs l ≡ before ++ sign ∷ [])
  IsSample signs sign (At noted) = IsRow M signs noted.row
  IsSample signs sign Unknown = Unit {0}

-- the rows of no formulas: that of the verdict's value, or none where there is no label
abbrev pub AreStarted : {V W E : Type 0} → Result (Verdict V W) E → List (SignRow V) → Type 0
AreStarted {V} verdict rows = ((verdict ≡ Ok Unsat) × (rows ≡ [])) ⊎ ((r : SignRow V) × (verdict ≡ Ok (Sat r.value)) × (r.signs.items ≡ []) × (rows ≡ r ∷ []))

-- the verdict is that no label has the signs, or shows the row
abbrev pub IsFoundBy : {V W E : Type 0} → Result (Verdict V W) E → List Bool → Option (Noted V) → Type 0
IsFoundBy verdict signs None = verdict ≡ Ok Unsat
IsFoundBy verdict signs (Some noted) = (verdict ≡ Ok (Sat noted.row.value)) × (noted.row.signs.items ≡ signs)

-- the verdict shows the chain
abbrev pub IsStopOf : {V W E : Type 0} → Result (Verdict V W) E → SplitStop W → Type 0
IsStopOf verdict TooMany = ⊥
IsStopOf verdict (Chain w) = verdict ≡ Ok (Wide w)
IsStopOf verdict Memory = Unit {0}

-- the stop is that of what was made, or memory ran out
abbrev pub IsPassedOn : {X W : Type 0} → Result X (SplitStop W) → SplitStop W → Type 0
IsPassedOn made stop = (stop ≡ Memory) ⊎ (made ≡ Err stop)

-- the other row is added, if there is one, and then the row with one more sign
pub record AreAdded {V : Type 0} (row : SignRow V) (sign : Bool) (other : Option (Noted V)) (old new : List (Noted V)) : Type 0 where
  pub longer : Noted V
  pub value : longer.row.value ≡ row.value
  pub signs : longer.row.signs.items ≡ row.signs.items ++ sign ∷ []
  pub between : List (Noted V)
  pub found : MatchOption other (between ≡ old) (λ noted. between ≡ old ++ noted ∷ [])
  pub pushed : new ≡ between ++ longer ∷ []
