-- How far a session is, and what a step does.
use Rattle.std.specs.Prelude.{◌≡◌, ◌⊎◌, ◌≤◌, ◌<◌, ℕ, true, List, ◌∷◌, None, length, take, get_or, is_some}
use Rattle.model_tree.specs.Limits.{most_classes}
use Rattle.model_grammar.specs.Syntax.{Item}
use Rattle.model_run.specs.Causes.{HasCause}
use Rattle.model_names.specs.Kinds.{Kind}
use Rattle.model_run.specs.Texts.{IsNameOf}
use Rattle.fast_eval.specs.Forms.{IsReadyName}
use Rattle.model_run.specs.Outcomes.{Outcome, silent, trees_in, IsOutcome}
use Rattle.model_run.specs.Owed.{IsUnowed}
use Rattle.fast_build.specs.Items.{items_of}
use Rattle.tree_values.specs.Trees.{Tells}
use Rattle.fast_session.specs.declared.answers.Step.{Step}
use Rattle.fast_session.specs.declared.answers.Step.TheVariants as step
use Rattle.fast_session.specs.declared.answers.Halt.{Halt}
use Rattle.fast_session.specs.declared.answers.Halt.TheVariants as halt
use Rattle.fast_session.specs.declared.session.Session.{Session}
use Rattle.fast_session.specs.Answers.{plain_cause, CanBeShown, IsCauseTyped, line_outcome}
use Rattle.fast_session.specs.Kept.{IsKept}
use Rattle.fast_session.specs.Items.{HaveScalars, IsTyped}

-- the items of its program
abbrev pub items_in : Session → List Item
items_in s = items_of s.checked

-- what is so of each session
pub record IsOver (s : Session) : Type 0 where
  pub shallow : s.limit ≤ most_classes

-- it hasn't ended, and its items that are done had these outcomes, the last one first
pub record IsAt (s : Session) (done : List Outcome) : Type 0 where
  pub over : IsOver s
  pub running : s.ended ≡ None
  pub count : length done ≡ s.next
  pub low : s.next ≤ length (items_in s)
  pub kept : IsKept (items_in s) (take s.next (items_in s)) s.kept
  pub told : Tells s.kept.trees (trees_in done)

-- it is somewhere, or it ended
abbrev pub IsSession : Session → Type 0
IsSession s = ((done : List Outcome) × IsAt s done) ⊎ (is_some s.ended ≡ true)

-- it hasn't ended, and what the language or transformation of the name needs is built
pub record IsReadyFor (kind : Kind) (s : Session) (name : List ℕ) : Type 0 where
  pub done : List Outcome
  pub at : IsAt s done
  pub named : IsNameOf (items_in s) kind name
  pub known : IsReadyName kind (items_in s) s.kept.built name

-- or it ended
abbrev pub IsPrepared : Kind → Session → List ℕ → Type 0
IsPrepared kind s name = IsReadyFor kind s name ⊎ (is_some s.ended ≡ true)

pub record IsSameProgram (old new : Session) : Type 0 where
  pub program : new.checked ≡ old.checked
  pub limit : new.limit ≡ old.limit

-- the item at a place, counted from 0
abbrev pub IsItemAt : List Item → ℕ → Item → Type 0
IsItemAt items n item = (n < length items) × (item ≡ get_or items n item)

-- the next item is done, and may have the outcome, and no refusal is owed of it
pub record IsNext (old new : Session) (done : List Outcome) (o : Outcome) : Type 0 where
  pub item : Item
  pub is : IsItemAt (items_in old) (length done) item
  pub may : HaveScalars o → IsOutcome (items_in old) (trees_in done) item o
  pub unowed : IsUnowed (items_in old) (trees_in done) item.body
  pub typed : IsTyped o
  pub at : IsAt new (o ∷ done)

-- After items with these outcomes: the line of the next one, or that it has none; or that no item is left.
abbrev pub IsStep : Session → Session → List Outcome → Step → Type 0
IsStep old new done (step.Line l) = IsNext old new done (line_outcome (items_in old) l)
IsStep old new done step.Silent = IsNext old new done silent
IsStep old new done step.Done = (length (items_in old) ≡ length done) × (new ≡ old)

-- the next item has the cause, and this is its place
abbrev pub IsHalt : Session → List Outcome → Halt → Type 0
IsHalt old done (halt.Refused cause place) =
    (item : Item) × IsItemAt (items_in old) (length done) item × (place ≡ item.place)
    × (CanBeShown cause → HasCause (items_in old) old.limit (trees_in done) item.body (plain_cause (items_in old) cause)) × IsCauseTyped (items_in old) cause
IsHalt old done (halt.Ended refusal) = ⊥
IsHalt old done halt.Memory = Unit {0}
