-- How an item is done, and why it isn't.
use Rattle.std.specs.Prelude.{◌≡◌, ℕ, Bool, true, false, List, [], ◌∷◌, ◌++◌}
use Rattle.model_tree.specs.Scalars.{has_scalars}
use Rattle.model_tree.specs.Signature.{HasType}
use Rattle.fast_fault.specs.declared.code.Code.{Code}
use Rattle.model_grammar.specs.Syntax.{X, Claim, equal, member, empty, type_check, AssertItem, Item}
use Rattle.model_meaning.specs.Values.{Printed}
use Rattle.model_meaning.specs.Truth.{Shows}
use Rattle.model_run.specs.Items.{OfSomeTreeOf}
use Rattle.model_run.specs.Causes.{AreAllLarge, HasCause}
use Rattle.model_run.specs.Owed.{IsUnowed}
use Rattle.model_run.specs.Outcomes.{Outcome, silent, tree_line, minimal_line, true_verdict, tree_verdict, claim_type, trees_in, IsOutcome, IsVerdict}
use Rattle.fast_eval.specs.Table.{AreBuilt, IsGrown}
use Rattle.tree_values.specs.Owed.{IsOwedFor}
use Rattle.tree_values.specs.Trees.{Tells}
use Rattle.fast_session.specs.declared.answers.Stopped.{Stopped}
use Rattle.fast_session.specs.declared.answers.Stopped.TheVariants.{By, Memory}
use Rattle.fast_session.specs.declared.items.Kept.{Kept}
use Rattle.fast_session.specs.declared.verdicts.Verdict.{Verdict}
use Rattle.fast_session.specs.Answers.{plain_cause, CanBeShown, IsCauseTyped, verdict_on}
use Rattle.fast_session.specs.Kept.{IsKept}

-- The texts in the tree of a line are lists of Unicode scalars, which printing it shows.
abbrev pub HaveScalars : Outcome → Type 0
HaveScalars silent = Unit {0}
HaveScalars (tree_line name signature t) = has_scalars t ≡ true
HaveScalars (minimal_line name n) = Unit {0}
HaveScalars (true_verdict n passes) = Unit {0}
HaveScalars (tree_verdict n passes signature t) = has_scalars t ≡ true

-- the tree of a line has the type by which it is printed
abbrev pub IsTyped : Outcome → Type 0
IsTyped silent = Unit {0}
IsTyped (tree_line name signature t) = HasType signature t
IsTyped (minimal_line name n) = Unit {0}
IsTyped (true_verdict n passes) = Unit {0}
IsTyped (tree_verdict n passes signature t) = HasType signature t

-- The item may have the outcome, whatever outcomes those before it had with which these trees were printed; and it is kept.
pub record IsDone (items : List Item) (item : Item) (old new : Kept) (o : Outcome) : Type 0 where
  pub may : (done : List Outcome) → Tells old.trees (trees_in done) → HaveScalars o → IsOutcome items (trees_in done) item o
  pub unowed : (done : List Outcome) → Tells old.trees (trees_in done) → IsUnowed items (trees_in done) item.body
  pub typed : IsTyped o
  pub told : (done : List Outcome) → Tells old.trees (trees_in done) → Tells new.trees (trees_in (o ∷ done))
  pub kept : (before : List Item) → IsKept items before old → IsKept items (before ++ item ∷ []) new

-- the item has the cause
abbrev pub IsStoppedAt : List Item → ℕ → Item → Kept → Stopped → Type 0
IsStoppedAt items limit item old (By cause) =
    ((done : List Outcome) → Tells old.trees (trees_in done) → CanBeShown cause → HasCause items limit (trees_in done) item.body (plain_cause items cause)) × IsCauseTyped items cause
IsStoppedAt items limit item old Memory = Unit {0}

-- the same, whatever trees were printed before it
abbrev pub IsAlwaysStopped : List Item → ℕ → Item → Stopped → Type 0
IsAlwaysStopped items limit item (By cause) = ((trees : List Printed) → CanBeShown cause → HasCause items limit trees item.body (plain_cause items cause)) × IsCauseTyped items cause
IsAlwaysStopped items limit item Memory = Unit {0}

-- ---- verdicts

-- more was built
pub record IsBuiltMore (items : List Item) (old new : Kept) : Type 0 where
  pub built : AreBuilt items new.built
  pub grown : IsGrown old.built new.built
  pub trees : new.trees ≡ old.trees

-- the outcome of a verdict on an assertion in this line of the text
abbrev pub verdict_outcome : List Item → ℕ → AssertItem → Verdict → Outcome
verdict_outcome items line a v = verdict_on line v.passes (claim_type items a.claim) v.shown

-- no refusal is owed for the tree expressions in a statement, nor for the trees that show that it is false
pub record IsClaimUnowed (items : List Item) (trees : List Printed) (claim : Claim) : Type 0 where
  pub inside : (code : Code) → ¬ (OfSomeTreeOf items (IsOwedFor items trees code) claim)
  pub shown : ¬ (AreAllLarge (Shows items claim))

-- the assertion may have the verdict
pub record IsVerdictOn (items : List Item) (line : ℕ) (a : AssertItem) (old : Kept) (v : Verdict) : Type 0 where
  pub may : (done : List Outcome) → Tells old.trees (trees_in done) → HaveScalars (verdict_outcome items line a v) → IsVerdict items (trees_in done) line a (verdict_outcome items line a v)
  pub unowed : (done : List Outcome) → Tells old.trees (trees_in done) → IsClaimUnowed items (trees_in done) a.claim
  pub typed : IsTyped (verdict_outcome items line a v)

-- that a tree is in a language
abbrev pub is_member : Claim → Bool
is_member (equal x y) = false
is_member (member x y) = true
is_member (empty x) = false
is_member (type_check x f y) = false

-- the expression with the type of whose trees a statement speaks
abbrev pub spoken_of : Claim → X
spoken_of (equal x y) = x
spoken_of (member x y) = y
spoken_of (empty x) = x
spoken_of (type_check x f y) = x
