-- Where a composition is refused: its item has no line, and its name takes no trees.
use Rattle.std.proofs.Common.{ℕ, List, [], inl, inr, codes, refl, arith}
use Rattle.fast_fault.specs.declared.status.Status.TheVariants.{Hold}
use Rattle.model_names.specs.Kinds.{transformation}
use Rattle.model_meaning.specs.Reached.{on_name, itself}
use Rattle.model_meaning.specs.Values.{Printed}
use Rattle.model_meaning.specs.Programs.{name}
use Rattle.model_run.specs.Items.{IsComposable}
use Rattle.model_run.specs.Outcomes.{Outcome, IsOutcome}
use Rattle.model_run.specs.Report.{Given, IsNeeded, AreNeededComposable, IsTreeDone, TreesEnd, named_x}
use Rattle.model_run.specs.Examples.{copying_items, both_body, pick_and_copy}
use Rattle.model_run.specs.Borders.{both_item}
use Rattle.model_run.proofs.Laws.{shown_are_not_composable}
use Rattle.model_run.proofs.Told.{not_both}

refused : ¬ (IsComposable copying_items both_body)
refused composable =
    let shown = shown_are_not_composable copying_items 1000 [] both_body pick_and_copy not_both in
    elim (composable shown.0 shown.1 shown.2) [ inl plain ↦ shown.3 plain | inr linear ↦ shown.4 linear ]

pub uncomposed : (trees : List Printed) (o : Outcome) → ¬ (IsOutcome copying_items trees both_item o)
uncomposed trees o is = refused is.composable

both_needed : IsNeeded copying_items (codes "both") both_item
both_needed = record { there = (3, omega arith, refl); own = name (codes "both"); named = refl; needed = on_name (named_x (codes "both")) (codes "both") (codes "both") refl itself }

not_all : ¬ (AreNeededComposable copying_items (codes "both"))
not_all composable = refused (composable both_item both_needed)

pub not_given : (before after : Given) (lines : List ℕ) → ¬ (IsTreeDone copying_items (codes "both") transformation before lines after)
not_given before after lines done = not_all done.composable

pub not_held : (given : Given) (last : List ℕ) → ¬ (TreesEnd copying_items (codes "A") (codes "both") (codes "F") transformation given Hold last)
not_held given last ends = not_all ends.0
