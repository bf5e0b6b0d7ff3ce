-- Tree expressions of which no refusal is owed.
use Rattle.std.specs.Prelude.{List}
use Rattle.fast_fault.specs.declared.code.Code.{Code}
use Rattle.fast_fault.specs.declared.code.Code.TheVariants.{LabelRange, EmptyLanguage, OutputCount, Outputs, TreeSize}
use Rattle.model_tree.specs.Tree.{LabelTree}
use Rattle.model_tree.specs.Signature.{PlainSignature}
use Rattle.model_grammar.specs.Syntax.{X, Xs, Item}
use Rattle.model_meaning.specs.Meaning.{IsTreeOf}
use Rattle.model_meaning.specs.Values.{Printed}
use Rattle.model_run.specs.Items.{OfSomeTree, OfSomeTreeIn, Finds, IsAppliedToEach}
use Rattle.model_run.specs.Causes.{AreAllLarge}
use Rattle.model_run.specs.Owed.{IsOwedAt, HasNotOneOutput}

module _ (items : List Item) (printed : List Printed) where
  -- the code is owed for the operation that the expression is
  abbrev pub IsOwedFor : Code → PlainSignature → X → Type 0
  IsOwedFor LabelRange = IsAppliedToEach items printed (IsOwedAt items LabelRange)
  IsOwedFor EmptyLanguage = Finds (λ x. (t : LabelTree) → ¬ (IsTreeOf items x t))
  IsOwedFor OutputCount = IsAppliedToEach items printed (HasNotOneOutput items)
  IsOwedFor Outputs = IsAppliedToEach items printed (IsOwedAt items Outputs)
  IsOwedFor TreeSize = Finds (λ x. AreAllLarge (IsTreeOf items x))
  IsOwedFor code = λ signature x. ⊥

  -- none is owed for the expression and those in it, nor for several
  pub record OwesNothing (signature : PlainSignature) (x : X) : Type 0 where
    pub none : (code : Code) → ¬ (OfSomeTree items (IsOwedFor code) signature x)

  pub record OweNothing (signature : PlainSignature) (xs : Xs) : Type 0 where
    pub none : (code : Code) → ¬ (OfSomeTreeIn items (IsOwedFor code) signature xs)
