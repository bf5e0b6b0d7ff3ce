-- The names that a name needs, and what is built for them.
use Rattle.std.specs.Prelude.{◌≡◌, ◌⊎◌, ◌≤◌, ℕ, true, List, [], ◌∷◌, ◌++◌, Option, Some, None, length}
use Rattle.std.specs.List.{Contains}
use Rattle.model_tree.specs.Limits.{most_classes}
use Rattle.model_tree.specs.Tree.{LabelTree}
use Rattle.model_program.specs.Syntax.{Name}
use Rattle.model_grammar.specs.Syntax.{X, named, one, two, literal, DefItem, Body, sorts, tree, lang, trans, def, assertion, Item}
use Rattle.model_checks.specs.Sound.{StandsIn}
use Rattle.model_meaning.specs.Reached.{IsNamedIn, DependsOn}
use Rattle.model_names.specs.Declared.{own_name}
use Rattle.model_run.specs.Items.{IsComposable}
use Rattle.model_run.specs.Causes.{HasCause, TreeHasCause}
use Rattle.model_run.specs.Report.{named_x, IsNeeded}
use Rattle.fast_eval.specs.Defined.{AreDefinedOf}
use Rattle.fast_eval.specs.Table.{AreBuilt}
use Rattle.fast_session.specs.declared.answers.Halt.{Halt}
use Rattle.fast_session.specs.declared.answers.Halt.TheVariants as halt
use Rattle.fast_session.specs.declared.answers.Stopped.{Stopped}
use Rattle.fast_session.specs.declared.answers.Stopped.TheVariants.{By, Memory}
use Rattle.fast_session.specs.declared.items.Around.{Around}
use Rattle.fast_session.specs.declared.items.Kept.{Kept}
use Rattle.fast_session.specs.Answers.{plain_cause, CanBeShown, IsCauseTyped}
use Rattle.fast_session.specs.Kept.{items_in}

-- the definition that an item is
abbrev pub own_def : Body → Option DefItem
own_def (sorts t) = None
own_def (tree t) = None
own_def (lang l) = None
own_def (trans t) = None
own_def (def d) = Some d
own_def (assertion a) = None

-- the names in an expression of a language, or of a transformation
abbrev pub names_in : X → List (List ℕ)
names_in (named n) = n.text ∷ []
names_in (one op place x) = names_in x
names_in (two op place x y) = names_in x ++ names_in y
names_in (literal name labels xs) = []

-- the old names, and where the name of the definition is one of them, the names in its expression
pub record IsFollowed (body : Body) (old new : List (List ℕ)) : Type 0 where
  pub kept : (m : List ℕ) → Contains old m → Contains new m
  pub added : (m : List ℕ) → Contains new m → Contains old m ⊎ ((d : DefItem) × (body ≡ def d) × Contains old d.name.text × IsNamedIn d.value m)
  pub followed : (d : DefItem) → body ≡ def d → Contains old d.name.text → (m : List ℕ) → IsNamedIn d.value m → Contains new m

-- of the definitions from this place on, those with one of the names have only such names in their expressions
abbrev pub AreClosedFrom : List Item → ℕ → List (List ℕ) → Type 0
AreClosedFrom items n names = (item : Item) (at : StandsIn items item) (d : DefItem) → n ≤ length at.before → item.body ≡ def d → Contains names d.name.text → (m : List ℕ) → IsNamedIn d.value m → Contains names m

-- the name itself, and names on which it depends, with those in the expressions of definitions among them
pub record AreNeeded (items : List Item) (name : List ℕ) (names : List (List ℕ)) : Type 0 where
  pub itself : Contains names name
  pub needed : (m : List ℕ) → Contains names m → DependsOn items (named_x name) m
  pub closed : AreClosedFrom items 0 names

-- the definitions before the item that have one of the names are built
pub record IsBuildable (a : Around) (names : List (List ℕ)) (item : Item) (k : Kept) : Type 0 where
  pub at : StandsIn (items_in a) item
  pub built : AreBuilt (items_in a) k.built
  pub closed : AreClosedFrom (items_in a) 0 names
  pub defined : AreDefinedOf (Contains names) k.built at.before
  pub shallow : a.limit ≤ most_classes

-- of these items, the compositions of each with one of the names can be made
abbrev pub AreComposableOf : List Item → (List ℕ → Type 0) → List Item → Type 0
AreComposableOf items P some = (item : Item) (own : Name) → Contains some item → own_name item.body ≡ Some own → P own.text → IsComposable items item.body

-- the item at the place has one of the names, and the cause
abbrev pub IsHaltAmong : List Item → ℕ → List (List ℕ) → Halt → Type 0
IsHaltAmong items limit names (halt.Refused cause place) =
    (item : Item) × Contains items item × (place ≡ item.place) × (own : Name) × (own_name item.body ≡ Some own) × Contains names own.text × (CanBeShown cause → HasCause items limit [] item.body (plain_cause items cause)) × IsCauseTyped items cause
IsHaltAmong items limit names (halt.Ended refusal) = ⊥
IsHaltAmong items limit names halt.Memory = Unit {0}

-- the tree has the cause, where the transformation of the name is asked for its outputs
abbrev pub IsTreeStopped : List Item → List ℕ → LabelTree → Stopped → Type 0
IsTreeStopped items name t (By cause) = TreeHasCause items (named_x name) t (plain_cause items cause) × IsCauseTyped items cause
IsTreeStopped items name t Memory = Unit {0}

-- the name needs the item at the place, which has the cause
abbrev pub IsHaltNeeded : List Item → ℕ → List ℕ → Halt → Type 0
IsHaltNeeded items limit name (halt.Refused cause place) = (item : Item) × IsNeeded items name item × (place ≡ item.place) × (CanBeShown cause → HasCause items limit [] item.body (plain_cause items cause)) × IsCauseTyped items cause
IsHaltNeeded items limit name (halt.Ended refusal) = ⊥
IsHaltNeeded items limit name halt.Memory = Unit {0}
