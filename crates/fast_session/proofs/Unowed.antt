-- Items of which no refusal is owed.
use Rattle.std.proofs.Common.{inl, inr, List}
use Rattle.fast_fault.specs.declared.code.Code.{Code}
use Rattle.fast_fault.specs.declared.code.Code.TheVariants.{LabelRange, NotComposable, EmptyLanguage, OutputCount, Outputs, TreeSize}
use Rattle.model_grammar.specs.Syntax.{Body, Item}
use Rattle.model_meaning.specs.Values.{Printed}
use Rattle.model_meaning.specs.Truth.{Shows}
use Rattle.model_run.specs.Items.{OfItem, OfClaim, IsComposable}
use Rattle.model_run.specs.Causes.{AreAllLarge}
use Rattle.model_run.specs.Owed.{IsUnowed}
use Rattle.model_run.proofs.Unowed.{no_composition, no_meetings}
use Rattle.tree_values.specs.Owed.{IsOwedFor}

module _ (items : List Item) (trees : List Printed) (body : Body) (composable : IsComposable items body) where
  -- none is where none is for its tree expressions, nor for the trees that show that its statement is false
  pub item_unowed : ((code : Code) → ¬ (OfItem items (IsOwedFor items trees code) body)) → ¬ (OfClaim (λ claim. AreAllLarge (Shows items claim)) body) → IsUnowed items trees body
  item_unowed inside shown LabelRange owed = inside LabelRange owed
  item_unowed inside shown NotComposable owed = no_composition items body composable trees owed
  item_unowed inside shown EmptyLanguage owed = inside EmptyLanguage owed
  item_unowed inside shown OutputCount owed = inside OutputCount owed
  item_unowed inside shown Outputs owed = inside Outputs owed
  item_unowed inside shown TreeSize (inl owed) = inside TreeSize owed
  item_unowed inside shown TreeSize (inr (inl large)) = shown large
  item_unowed inside shown TreeSize (inr (inr meetings)) = no_meetings items body composable meetings
  item_unowed inside shown code owed = owed
