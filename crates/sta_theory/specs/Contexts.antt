-- Trees that contexts tell apart by a language with a test.
use Rattle.std.specs.Prelude.{ℕ, ◌≡◌, Bool, List}
use Rattle.model_tree.specs.Tree.{Tree}
use Rattle.model_sta.specs.Sets.{Fits}
use Rattle.model_sta.specs.Contexts as contexts

-- exactly one of two trees is in the language
abbrev pub Differ : {L : Type 0} → (Tree L → Bool) → Tree L → Tree L → Type 0
Differ member s t = ¬ (member s ≡ member t)

module _ {L : Type 0} (ranks : List ℕ) (D : L → Type 0) (member : Tree L → Bool) where
  abbrev pub AreToldApart : Tree L → Tree L → Type 0
  AreToldApart = contexts.AreToldApart (Fits ranks D) (Differ member)

  abbrev pub AreAllToldApart : List (Tree L) → Type 0
  AreAllToldApart = contexts.AreAllToldApart (Fits ranks D) (Differ member)

  abbrev pub IsCount : ℕ → Type 0
  IsCount = contexts.IsCount (Fits ranks D) (Differ member)
