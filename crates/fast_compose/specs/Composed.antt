-- The compositions in expressions, and why one can't be made.
use Rattle.std.specs.Prelude.{◌≡◌, ◌≤◌, ℕ, true, List, [], ◌∷◌, Some, is_some}
use Rattle.model_tree.specs.Limits.{most_nodes, greatest_depth}
use Rattle.model_tree.specs.Tree.{node_count, depth}
use Rattle.model_tree.specs.Kept.{is_kept}
use Rattle.model_grammar.specs.Syntax.{X, Claim, equal, member, empty, type_check, OutRule, Item}
use Rattle.model_names.specs.Declared.{find_item}
use Rattle.model_meaning.specs.Types.{input_of}
use Rattle.model_meaning.specs.Meaning.{signature_named}
use Rattle.model_meaning.specs.Reached.{IsNamedIn}
use Rattle.model_run.specs.Plain.{ReachesSome, Meet, Copies}
use Rattle.model_run.specs.Parts.{HasMoreTrees}
use Rattle.model_run.specs.Items.{IsComposedIn}
use Rattle.model_run.specs.Causes.{AreAllLarge, IsTooWide, IsFirstCopying}
use Rattle.lin_solve.specs.declared.chain.Chain.{Chain}
use Rattle.lin_solve.specs.Shown.{bits_of}
use Rattle.sta_classes.specs.declared.stop.ClassStop.{ClassStop}
use Rattle.sta_classes.specs.declared.stop.ClassStop.TheVariants as classes
use Rattle.fast_compose.specs.Stops.{meeting_of}
use Rattle.fast_compose.specs.declared.stops.Uncomposable.{Uncomposable}
use Rattle.fast_compose.specs.declared.stops.ComposeStop.{ComposeStop}
use Rattle.fast_compose.specs.declared.stops.ComposeStop.TheVariants.{Classes, Wide, NotComposable, TooLarge, Memory}

-- the expressions of a statement
abbrev pub stated : Claim → List X
stated (equal x y) = x ∷ y ∷ []
stated (member x y) = x ∷ y ∷ []
stated (empty x) = x ∷ []
stated (type_check x f y) = x ∷ f ∷ y ∷ []

-- where the search for classes stops
abbrev pub by_classes : ClassStop Chain → ComposeStop
by_classes classes.Classes = Classes
by_classes (classes.Wide c) = Wide c
by_classes classes.Memory = Memory

module _ (items : List Item) where
  abbrev pub AreNamesDeclared : X → Type 0
  AreNamesDeclared e = (n : List ℕ) → IsNamedIn e n → is_some (find_item items n) ≡ true

  -- rules of the first meet, and one of the second copies
  pub record IsUncomposable (x y : X) (u : Uncomposable) : Type 0 where
    pub meet : ReachesSome items (λ q. (q ≡ u.meeting.name) × Meet items q u.meeting.first u.meeting.second (meeting_of u)) x
    pub copies : IsFirstCopying items y u.copying.name u.copying.rule
    pub type : signature_named items (Some u.meeting.of) ≡ input_of items u.meeting.name
    pub kept : is_kept (meeting_of u) ≡ true
    pub small : node_count (meeting_of u) ≤ most_nodes
    pub shallow : depth (meeting_of u) ≤ greatest_depth

  -- the same, but all trees where they meet are large
  pub record AreLargeMeetings (x y : X) : Type 0 where
    pub meet : AreAllLarge (λ t. ReachesSome items (λ q. (i j : ℕ) × Meet items q i j t) x)
    pub copies : ReachesSome items (λ q. (i : ℕ) × (r : OutRule) × Copies items q i r) y

  -- of two transformations that are composed
  abbrev pub StopsPair : ℕ → X → X → ComposeStop → Type 0
  StopsPair limit x y Classes = HasMoreTrees items (x ∷ []) limit
  StopsPair limit x y (Wide c) = IsTooWide items (x ∷ []) (bits_of c.width)
  StopsPair limit x y (NotComposable u) = IsUncomposable x y u
  StopsPair limit x y TooLarge = AreLargeMeetings x y
  StopsPair limit x y Memory = Unit {0}

  -- of a composition in the expression
  abbrev pub StopsIn : ℕ → X → ComposeStop → Type 0
  StopsIn limit e stop = (x y : X) × IsComposedIn x y e × StopsPair limit x y stop
