-- How the items are counted whose lines aren't put.
use Rattle.std.specs.Prelude.{◌≡◌, ◌⊎◌, ℕ, zero, suc, Bool, true, false, List, ◌∷◌, ◌++◌, Option, None, Some, drop, length, codes, decimal}
use Rattle.model_tree.specs.Limits.{usual_classes}
use Rattle.fast_fault.specs.declared.status.Status.{Status}
use Rattle.fast_fault.specs.declared.status.Status.TheVariants.{Hold, Fails, Memory}
use Rattle.model_grammar.specs.Syntax.{Item}
use Rattle.model_run.specs.Owed.{IsUnowed}
use Rattle.model_run.specs.Outcomes.{Outcome, silent, tree_line, minimal_line, true_verdict, tree_verdict, trees_in, IsOutcome, verdicts}
use Rattle.model_run.specs.Scripts.{Comes}
use Rattle.model_run.specs.Report.{items_script, self_name}
use Rattle.fast_session.specs.Sessions.{items_in, IsAt}
use Rattle.fast_session.specs.declared.session.Session.{Session}
use Rattle.fast_tool.specs.declared.counted.Tally.{Tally}
use Rattle.fast_tool.specs.Runs.{EndsWith, IsNextItem, IsEnded}

-- whether an outcome says that an assertion passes
abbrev pub verdict_in : Outcome → Option Bool
verdict_in silent = None
verdict_in (tree_line name signature t) = None
verdict_in (minimal_line name n) = None
verdict_in (true_verdict n passes) = Some passes
verdict_in (tree_verdict n passes signature t) = Some passes

-- the numbers of verdicts of either kind
pub record IsTally (t : Tally) (outcomes : List Outcome) : Type 0 where
  pub passed : t.passed ≡ verdicts true outcomes
  pub failed : t.failed ≡ verdicts false outcomes

-- the line for so many items, and the status that goes with it
abbrev pub tally_line : ℕ → ℕ → Tally → List ℕ
tally_line n count t =
    codes "self " ++ (decimal n ++ (codes ": items " ++ (decimal count ++ (codes ", passed " ++ (decimal t.passed ++ (codes ", failed " ++ (decimal t.failed ++ codes "\n")))))))

abbrev pub status_for : ℕ → Status
status_for zero = Hold
status_for (suc n) = Fails

-- the line was put, or a front of it with a fault; or nothing, for want of memory
abbrev pub IsTold : ℕ → ℕ → Tally → Option (List ℕ) → Option (List ℕ) → Status → Type 0
IsTold n count t before after status = ((status ≡ Memory) × (after ≡ before)) ⊎ EndsWith before after (tally_line n count t) (status_for t.failed) status

-- the next item is done, with this verdict, and no refusal is owed of it
pub record IsCounted (old new : Session) (done : List Outcome) (verdict : Option Bool) : Type 0 where
  pub item : Item
  pub is : IsNextItem old done item
  pub outcome : Outcome
  pub may : IsOutcome (items_in old) (trees_in done) item outcome
  pub unowed : IsUnowed (items_in old) (trees_in done) item.body
  pub at : IsAt new (outcome ∷ done)
  pub verdict_is : verdict ≡ verdict_in outcome

-- Nothing was put, for want of memory; or the refusal for a cause that the next item has, or a front of it with a fault.
abbrev pub IsHalted : Session → List Outcome → Option (List ℕ) → Option (List ℕ) → Status → Type 0
IsHalted old done before after status = ((status ≡ Memory) × (after ≡ before)) ⊎ IsEnded self_name old done before after status

-- so many items of the program are done, and counted
pub record Counted (items : List Item) (count : ℕ) (s : Session) (t : Tally) : Type 0 where
  pub program : items_in s ≡ items
  pub limited : s.limit ≡ usual_classes
  pub outcomes : List Outcome
  pub counted : length outcomes ≡ count
  pub at : IsAt s outcomes
  pub before : List ℕ
  pub come : Comes (items_script items usual_classes self_name) (record { left = drop count items; done = outcomes }) before
  pub tally : IsTally t outcomes
