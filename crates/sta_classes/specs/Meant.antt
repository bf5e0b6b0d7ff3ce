-- What a table says of trees, once a theory gives labels and atoms a meaning.
use Rattle.std.specs.Prelude.{ℕ, Bool, List, length, map}
use Rattle.model_tree.specs.Label.{Label}
use Rattle.model_tree.specs.Tree.{Tree, relabel}
use Rattle.model_sta.specs.Reached.{IsComplete, IsTable, HasMoreSets}
use Rattle.model_sta.specs.Least.{relabel_found, rows_of, AreClasses, AreMade, IsWitness, HasNoTreeBelow, IsLeastTree}
use Rattle.label_core.specs.Meaning.{Meaning}
use Rattle.sta_core.specs.Machine.{Machine, PlainRule}
use Rattle.sta_core.specs.Sta.{automaton_of}
use Rattle.sta_classes.specs.declared.class.Class.{Class}
use Rattle.sta_classes.specs.declared.stop.ClassStop.{ClassStop}
use Rattle.sta_classes.specs.Guards.{all_guards}
use Rattle.sta_classes.specs.Plain.{PlainTable, class_row}
use Rattle.sta_classes.specs.Rows.{founds}
use Rattle.sta_classes.specs.Rules.{meaning_of}
use Rattle.sta_classes.specs.Stop.{ClassStopsFor}

module _ {A V W : Type 0} {label_of : V → Label} {holds : A → Label → Bool} (M : Meaning label_of holds W) where
  -- trees over kept labels have more than so many sets of states
  abbrev pub HasMoreClasses : Machine A → ℕ → Type 0
  HasMoreClasses sta most = HasMoreSets sta.ranks M.keeps (automaton_of holds sta) most

  -- there are too many classes, or a chain over the automaton's guards is too wide
  abbrev pub StopsClasses : Machine A → ℕ → ClassStop W → Type 0
  StopsClasses sta most = ClassStopsFor M (HasMoreClasses sta most) (all_guards sta.rules)

  -- the classes are those of the rules, each made of earlier ones with as few nodes as can be; and they are all
  module _ (cap : ℕ) (ranks : List ℕ) (rules : List (List (PlainRule A))) (found : List (Class V)) where
    abbrev pub AreFound : Type 0
    AreFound = AreClasses cap ranks M.has M.keeps (meaning_of holds rules) (founds label_of found)

    abbrev pub AreAllFound : Type 0
    AreAllFound = IsComplete ranks M.has (meaning_of holds rules) (rows_of (founds label_of found))

  -- exactly the sets of states that the automaton's trees have, each once
  abbrev pub IsTableOf : Machine A → PlainTable A V → Type 0
  IsTableOf sta t = IsTable sta.ranks M.has M.keeps (automaton_of holds sta) (rows_of t.found)

  -- the classes are those of the automaton, with its least trees
  abbrev pub IsBuilt : ℕ → PlainTable A V → Type 0
  IsBuilt cap t = AreClasses cap t.machine.ranks M.has M.keeps (automaton_of holds t.machine) (map (relabel_found label_of) t.found)

  -- each class is made of earlier ones
  abbrev pub IsMadeUp : ℕ → PlainTable A V → Type 0
  IsMadeUp cap t = AreMade cap t.machine.ranks M.keeps (automaton_of holds t.machine) (map (relabel_found label_of) t.found)

  -- a tree of the class, by how it was found
  abbrev pub IsMadeTree : ℕ → PlainTable A V → ℕ → Tree V → Type 0
  IsMadeTree cap t class tree = IsWitness cap t.machine.ranks M.keeps (automaton_of holds t.machine) (map (relabel_found label_of) t.found) class (relabel label_of tree)

  -- a tree of the class with the fewest nodes, and that each one has at least so many
  abbrev pub IsLeastOfClass : ℕ → PlainTable A V → ℕ → Tree V → Type 0
  IsLeastOfClass cap t class tree = IsLeastTree cap t.machine.ranks M.has M.keeps (automaton_of holds t.machine) (length t.found) (class_row t class) (relabel label_of tree)

  abbrev pub HasNoSmallTree : ℕ → PlainTable A V → ℕ → Type 0
  HasNoSmallTree cap t class = HasNoTreeBelow cap t.machine.ranks M.has (automaton_of holds t.machine) (class_row t class)
