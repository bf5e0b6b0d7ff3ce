-- When a refusal must come. An item of which a code is owed isn't done: it is refused with this code, or with another one for
-- which it has a cause.
use Rattle.std.specs.Prelude.{◌⊎◌, ℤ, List}
use Rattle.fast_fault.specs.declared.code.Code.{Code}
use Rattle.fast_fault.specs.declared.code.Code.TheVariants.{LabelRange, NotComposable, EmptyLanguage, OutputCount, Outputs, TreeSize}
use Rattle.model_tree.specs.Tree.{LabelTree}
use Rattle.model_grammar.specs.Syntax.{X, Body, Item}
use Rattle.model_meaning.specs.Meaning.{IsRelated, IsTreeOf}
use Rattle.model_meaning.specs.Values.{Printed}
use Rattle.model_run.specs.Plain.{IsPlain, IsLinear}
use Rattle.model_run.specs.Items.{IsComposedInItem, OfItem, Finds, IsAppliedToEach}
use Rattle.model_sta.specs.Loads.{Load, IsTooMuch}
use Rattle.model_run.specs.Causes.{HasFarOutput, HasNoOutput, HasTwoOutputs, IsFoundLarge}

-- Of a tree that is given to a transformation: an output has a number outside 64 bits; the outputs are too much.
abbrev pub IsOwedAt : List Item → Code → X → LabelTree → Type 0
IsOwedAt items LabelRange f t = (n : ℤ) × HasFarOutput items n f t
IsOwedAt items Outputs f t = (load : Load) × IsTooMuch load (IsRelated items f) t
IsOwedAt items code f t = ⊥

-- there isn't exactly one output
abbrev pub HasNotOneOutput : List Item → X → LabelTree → Type 0
HasNotOneOutput items f t = HasNoOutput items f t ⊎ ((u w : LabelTree) × HasTwoOutputs items f t u w)

-- Of an item. Where the argument of an application has several values, the code is owed if each of them asks for it.
abbrev pub IsOwed : List Item → List Printed → Body → Code → Type 0
IsOwed items trees body LabelRange = OfItem items (IsAppliedToEach items trees (IsOwedAt items LabelRange)) body
IsOwed items trees body NotComposable = (x y : X) × IsComposedInItem items x y body × ¬ (IsPlain items x) × ¬ (IsLinear items y)
IsOwed items trees body EmptyLanguage = OfItem items (Finds (λ x. (t : LabelTree) → ¬ (IsTreeOf items x t))) body
IsOwed items trees body OutputCount = OfItem items (IsAppliedToEach items trees (HasNotOneOutput items)) body
IsOwed items trees body Outputs = OfItem items (IsAppliedToEach items trees (IsOwedAt items Outputs)) body
IsOwed items trees body TreeSize = IsFoundLarge items body
IsOwed items trees body code = ⊥

-- no refusal is owed of it
abbrev pub IsUnowed : List Item → List Printed → Body → Type 0
IsUnowed items trees body = (code : Code) → ¬ (IsOwed items trees body code)
