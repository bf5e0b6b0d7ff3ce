-- What is said of a language that is asked for a tree, and of two that are asked for a tree that is wanted of them.
use Rattle.std.specs.Prelude.{ℕ, ◌++◌, Bool, List}
use Rattle.model_tree.specs.Label.{Label}
use Rattle.model_tree.specs.Tree.{LabelTree}
use Rattle.model_sta.specs.Automaton.{Rule, is_accepted}
use Rattle.model_sta.specs.Sets.{Fits}
use Rattle.model_sta.specs.Told.{HasMoreApart, AreToldByEither}
use Rattle.label_core.specs.Meaning.{Meaning}
use Rattle.sta_core.specs.Machine.{Machine}
use Rattle.sta_core.specs.Sta.{automaton_of}
use Rattle.sta_core.specs.declared.Lang.{Lang}
use Rattle.sta_classes.specs.declared.stop.ClassStop.{ClassStop}
use Rattle.sta_classes.specs.Guards.{all_guards}
use Rattle.sta_classes.specs.Stop.{ClassStopsFor}
use Rattle.sta_ops.specs.declared.emptiness.Found.{Found}
use Rattle.sta_ops.specs.declared.emptiness.Wanted.{Wanted}
use Rattle.sta_ops.specs.Asked.{is_wanted, IsAskedTree, IsLeastAsked, HasBigAsked, IsAnswer}
use Rattle.sta_ops.specs.Rules.{beside}

module _ (ranks : List ℕ) (D keeps : Label → Type 0) (rules : List (List (Rule Label))) (state : ℕ) where
  -- a tree of the language, over all labels of the meaning
  abbrev pub IsTreeOf : LabelTree → Type 0
  IsTreeOf = IsAskedTree ranks D keeps (λ t. is_accepted rules t state)

  -- a least one
  abbrev pub IsLeastOf : ℕ → LabelTree → Type 0
  IsLeastOf = IsLeastAsked ranks D keeps (λ t. is_accepted rules t state)

  -- only trees with more nodes than one that is shown
  abbrev pub HasBigAlone : Type 0
  HasBigAlone = HasBigAsked ranks D keeps (λ t. is_accepted rules t state)

module _ {A V W : Type 0} {label_of : V → Label} {holds : A → Label → Bool} (M : Meaning label_of holds W) where
  -- what is answered of a state's language
  abbrev pub IsEmptyAnswer : Machine A → ℕ → ℕ → Found V → Type 0
  IsEmptyAnswer sta state most = IsAnswer M sta.ranks (λ t. is_accepted (automaton_of holds sta) t state) most

  -- the tree is wanted of the languages
  abbrev pub in_wanted : Wanted → Lang A → Lang A → LabelTree → Bool
  in_wanted wanted a b t = is_wanted wanted (is_accepted (automaton_of holds a.sta) t a.state) (is_accepted (automaton_of holds b.sta) t b.state)

  -- what is answered of two
  abbrev pub IsCompared : Wanted → Lang A → Lang A → ℕ → Found V → Type 0
  IsCompared wanted a b most = IsAnswer M a.sta.ranks (in_wanted wanted a b) most

  -- states of the two tell more than so many trees over kept labels apart, or a chain over the guards of both is too wide
  abbrev pub StopsEither : Lang A → Lang A → ℕ → ClassStop W → Type 0
  StopsEither a b most =
      ClassStopsFor M (HasMoreApart (Fits a.sta.ranks M.keeps) (AreToldByEither (automaton_of holds a.sta) (automaton_of holds b.sta)) most) (all_guards a.sta.rules ++ all_guards b.sta.rules)

-- both automata as one
abbrev pub side_by_side : {A : Type 0} → Lang A → Lang A → Machine A
side_by_side a b = record { ranks = a.sta.ranks; rules = beside a.sta.rules b.sta.rules }
