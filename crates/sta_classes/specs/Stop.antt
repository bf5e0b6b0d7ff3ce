-- What stops the search for classes.
use Rattle.std.specs.Prelude.{Bool, List, ⊤}
use Rattle.model_tree.specs.Label.{Label}
use Rattle.model_tree.specs.Formula.{Formula}
use Rattle.label_core.specs.Meaning.{Meaning, IsChainOver}
use Rattle.label_split.specs.Split.{HasUnkeptRow}
use Rattle.sta_classes.specs.declared.stop.ClassStop.{ClassStop}
use Rattle.sta_classes.specs.declared.stop.ClassStop.TheVariants.{Classes, Wide, Memory}
use Rattle.sta_classes.specs.Guards.{atoms_of_all, truths}

-- what each stop shows: that there are too many classes, or a chain over atoms of the guards that passes its width, which
-- is far only where some label of the meaning gives the guards truth values that no kept label gives them
module _ {A V W : Type 0} {label_of : V → Label} {holds : A → Label → Bool} (M : Meaning label_of holds W) where
  abbrev pub ClassStopsFor : Type 0 → List (Formula A) → ClassStop W → Type 0
  ClassStopsFor many guards Classes = many
  ClassStopsFor many guards (Wide w) = (IsChainOver M (atoms_of_all guards) w × M.passes w) × (M.is_far w → HasUnkeptRow M (truths holds guards))
  ClassStopsFor many guards Memory = ⊤
