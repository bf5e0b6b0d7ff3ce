-- What operations ask of languages, and what is known of the trees that they show.
use Rattle.std.specs.Prelude.{◌≡◌, ◌<◌, ℕ, List, length, ⊤, Vec, Bool}
use Rattle.model_tree.specs.Tree.{EveryLabel}
use Rattle.flat_label.specs.Bools.{IsBools, bools_label}
use Rattle.flat_label.specs.declared.bools.BoolAtom.{BoolAtom}
use Rattle.sta_core.specs.Sta.{AtomsFit}
use Rattle.sta_core.specs.declared.Lang.{Lang}
use Rattle.sta_ops.specs.declared.emptiness.Found.{Found}
use Rattle.sta_ops.specs.declared.emptiness.Found.TheVariants.{Absent, Shown, TooBig}

-- the language is of a state, over constructors of these ranks and labels of so many truth values
pub record IsOver (ranks : List ℕ) (fields : ℕ) (lang : Lang BoolAtom) : Type 0 where
  pub same_ranks : lang.sta.ranks ≡ ranks
  pub state : lang.state < length lang.sta.rules
  pub fit : AtomsFit (λ a. a.field < fields) lang.sta

-- the label has so many truth values
abbrev pub HasFields : {G : Type 0} → ℕ → Vec Bool G → Type 0
HasFields fields v = IsBools fields (bools_label v.items)

-- P holds of each label of a tree that is shown
abbrev pub Shows : {V : Type 0} → (V → Type 0) → Found V → Type 0
Shows P Absent = ⊤
Shows P (Shown tree) = EveryLabel P tree
Shows P TooBig = ⊤
