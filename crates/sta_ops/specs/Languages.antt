-- What operations owe of the languages that they make, over the labels of a theory.
use Rattle.std.specs.Prelude.{◌≡◌, ◌<◌, ◌++◌, Bool, length}
use Rattle.model_tree.specs.Label.{Label}
use Rattle.model_tree.specs.Tree.{LabelTree}
use Rattle.model_sta.specs.Sets.{Fits}
use Rattle.model_sta.specs.Operations.{Auto, KeepsGuards, IsUnion, IsIntersection, IsDifference, IsComplement}
use Rattle.label_core.specs.Atoms.{EachHasEqual}
use Rattle.label_core.specs.Meaning.{Meaning}
use Rattle.sta_core.specs.Sta.{automaton_of, AtomsFit}
use Rattle.sta_core.specs.declared.Lang.{Lang}
use Rattle.sta_classes.specs.Guards.{all_guards, atoms_of_all}

-- the automaton over labels
abbrev pub auto_of : {A : Type 0} → (A → Label → Bool) → Lang A → Auto Label
auto_of holds a = record { rules = automaton_of holds a.sta; start = a.state }

module _ {A V W : Type 0} {label_of : V → Label} {holds : A → Label → Bool} (M : Meaning label_of holds W) where
  -- the trees that the automaton of a language speaks of
  abbrev pub TypedFor : Lang A → LabelTree → Type 0
  TypedFor a = Fits a.sta.ranks M.has

  abbrev pub HasUnion : Lang A → Lang A → Lang A → Type 0
  HasUnion a b c = IsUnion (TypedFor a) (auto_of holds a) (auto_of holds b) (auto_of holds c)

  abbrev pub HasIntersection : Lang A → Lang A → Lang A → Type 0
  HasIntersection a b c = IsIntersection (TypedFor a) (auto_of holds a) (auto_of holds b) (auto_of holds c)

  abbrev pub HasComplement : Lang A → Lang A → Type 0
  HasComplement a c = IsComplement (TypedFor a) (auto_of holds a) (auto_of holds c)

  abbrev pub HasDifference : Lang A → Lang A → Lang A → Type 0
  HasDifference a b c = IsDifference (TypedFor a) (auto_of holds a) (auto_of holds b) (auto_of holds c)

  -- What each operation owes besides: the same ranks, and guards over atoms of the arguments' guards, which tell no more labels apart.
  pub record IsMadeOfBoth (fits : A → Type 0) (a b c : Lang A) : Type 0 where
    pub ranks : c.sta.ranks ≡ a.sta.ranks
    pub low : c.state < length c.sta.rules
    pub fit : AtomsFit fits c.sta
    pub guards : KeepsGuards (auto_of holds a) (auto_of holds b) (auto_of holds c)
    pub atoms : EachHasEqual M.equal (atoms_of_all (all_guards c.sta.rules)) (atoms_of_all (all_guards a.sta.rules ++ all_guards b.sta.rules))
