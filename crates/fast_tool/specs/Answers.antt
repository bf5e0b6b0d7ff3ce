-- Trees that are given to a language or a transformation.
use Rattle.std.specs.Prelude.{◌≡◌, ◌⊎◌, ℕ, Bool, List, [], Option, cond, drop}
use Rattle.fast_fault.specs.declared.status.Status.{Status}
use Rattle.fast_fault.specs.declared.status.Status.TheVariants as ends
use Rattle.fast_fault.specs.Written.{Appends, AppendsPrefix}
use Rattle.model_grammar.specs.Syntax.{Item}
use Rattle.model_names.specs.Kinds.{Kind, transformation}
use Rattle.model_run.specs.Causes.{Stop, HasCause, TreeHasCause}
use Rattle.model_run.specs.Lines.{inside_line, outside_line, stop_line}
use Rattle.model_run.specs.Report.{named_x, IsNeeded, AreNeededComposable, AreLinesOf, trees_script}
use Rattle.model_run.specs.Scripts.{Comes}
use Rattle.model_run.specs.Texts.{PlacedTree}
use Rattle.fast_session.specs.Sessions.{items_in, IsReadyFor}
use Rattle.fast_session.specs.declared.session.Session.{Session}
use Rattle.fast_tool.specs.Runs.{IsFault, EndsWith}

-- the line of the tree of this number
abbrev pub answer_line : ℕ → Bool → List ℕ
answer_line number inside = cond inside (inside_line number) (outside_line number)

-- what the name needs is built, and can be composed
pub record IsPrepared (kind : Kind) (s : Session) (name : List ℕ) : Type 0 where
  pub ready : IsReadyFor kind s name
  pub composable : AreNeededComposable (items_in s) name

-- an item that the name needs has the cause
pub record IsNeededCause (items : List Item) (limit : ℕ) (name : List ℕ) (item : Item) (stop : Stop) : Type 0 where
  pub needed : IsNeeded items name item
  pub cause : HasCause items limit [] item.body stop

-- a line was put no further than a front of it, with a fault; or nothing, for want of memory
abbrev pub IsCutLine : List ℕ → Option (List ℕ) → Option (List ℕ) → Status → Type 0
IsCutLine line before after status = ((status ≡ ends.Memory) × (after ≡ before)) ⊎ (IsFault status × AppendsPrefix before after line)

-- the refusal of an item that the name needs was put, or a front of it with a fault; or nothing, for want of memory
abbrev pub IsUnprepared : List Item → ℕ → List ℕ → List ℕ → Option (List ℕ) → Option (List ℕ) → Status → Type 0
IsUnprepared items limit file name before after status =
    ((status ≡ ends.Memory) × (after ≡ before))
    ⊎ ((item : Item) × (stop : Stop) × IsNeededCause items limit name item stop × EndsWith before after (stop_line stop file item.place) ends.RunRefused status)

module _ (items : List Item) (kind : Kind) (name : List ℕ) where
  -- the lines of the tree of this number were put
  abbrev pub IsAnswered : ℕ → PlacedTree → Option (List ℕ) → Option (List ℕ) → Type 0
  IsAnswered number p before after = (lines : List ℕ) × AreLinesOf items (named_x name) kind number p.tree lines × Appends before after lines

  -- the tree has a cause
  pub record IsTreeCause (p : PlacedTree) (stop : Stop) : Type 0 where
    pub asked : kind ≡ transformation
    pub cause : TreeHasCause items (named_x name) p.tree stop

  -- Nothing was put, for want of memory; or a front of the lines, with a fault; or the refusal for a cause that the tree of
  -- this file has, or a front of that.
  abbrev pub IsUnanswered : List ℕ → ℕ → PlacedTree → Option (List ℕ) → Option (List ℕ) → Status → Type 0
  IsUnanswered file number p before after status =
      ((status ≡ ends.Memory) × (after ≡ before))
      ⊎ (IsFault status × ((lines : List ℕ) × AreLinesOf items (named_x name) kind number p.tree lines × AppendsPrefix before after lines))
      ⊎ ((stop : Stop) × IsTreeCause p stop × EndsWith before after (stop_line stop file p.place) ends.RunRefused status)

-- so many of the trees are answered, and their lines were appended
pub record Answered (items : List Item) (file name trees : List ℕ) (kind : Kind) (placed : List PlacedTree) (count : ℕ) (before now : Option (List ℕ)) : Type 0 where
  pub written : List ℕ
  pub come : Comes (trees_script items file name trees kind placed) (record { left = drop count placed; done = count }) written
  pub appended : Appends before now written
