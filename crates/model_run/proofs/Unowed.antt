-- Items of which no refusal is owed.
use Rattle.std.proofs.Common.{inl, inr, List}
use Rattle.fast_fault.specs.declared.code.Code.{Code}
use Rattle.fast_fault.specs.declared.code.Code.TheVariants.{LabelRange, NotComposable, EmptyLanguage, OutputCount, Outputs, TreeSize}
use Rattle.model_tree.specs.Tree.{LabelTree}
use Rattle.model_tree.specs.Signature.{PlainSignature}
use Rattle.model_grammar.specs.Syntax.{X, Body, Item}
use Rattle.model_meaning.specs.Meaning.{IsTreeOf}
use Rattle.model_meaning.specs.Values.{Printed}
use Rattle.model_meaning.specs.Truth.{Shows}
use Rattle.model_run.specs.Items.{OfItem, OfClaim, Finds, IsAppliedToEach, IsComposable}
use Rattle.model_run.specs.Causes.{AreAllLarge, HasLargeMeetings}
use Rattle.model_run.specs.Owed.{IsOwedAt, HasNotOneOutput, IsOwed, IsUnowed}
use Rattle.model_run.proofs.Laws.{reaches_also}

module _ (items : List Item) (body : Body) (composable : IsComposable items body) where
  -- none for a composition
  pub no_composition : (trees : List Printed) → ¬ (IsOwed items trees body NotComposable)
  no_composition trees (x, y, composed, not_plain, not_linear) = elim (composable x y composed) [ inl plain ↦ not_plain plain | inr linear ↦ not_linear linear ]

  pub no_meetings : ¬ (HasLargeMeetings items body)
  no_meetings h = elim (composable h.first h.second h.composed) [
    | inl plain ↦ plain (reaches_also items _ _ (λ q two. (two.0, two.1, h.meet.tree, two.2)) h.first h.meet.right)
    | inr linear ↦ linear h.copies
  ]

  -- nor where the item has no tree expression, and no tree shows that its statement is false
  module _ (trees : List Printed) (none : (P : PlainSignature → X → Type 0) → ¬ (OfItem items P body)) (shown : ¬ (OfClaim (λ claim. AreAllLarge (Shows items claim)) body)) where
    pub treeless_unowed : IsUnowed items trees body
    treeless_unowed LabelRange owed = none (IsAppliedToEach items trees (IsOwedAt items LabelRange)) owed
    treeless_unowed NotComposable owed = no_composition trees owed
    treeless_unowed EmptyLanguage owed = none (Finds (λ x. (t : LabelTree) → ¬ (IsTreeOf items x t))) owed
    treeless_unowed OutputCount owed = none (IsAppliedToEach items trees (HasNotOneOutput items)) owed
    treeless_unowed Outputs owed = none (IsAppliedToEach items trees (IsOwedAt items Outputs)) owed
    treeless_unowed TreeSize (inl owed) = none (Finds (λ x. AreAllLarge (IsTreeOf items x))) owed
    treeless_unowed TreeSize (inr (inl large)) = shown large
    treeless_unowed TreeSize (inr (inr meetings)) = no_meetings meetings
    treeless_unowed code owed = owed
