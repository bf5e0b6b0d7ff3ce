-- What stops the evaluation of tree expressions, and what that shows of them.
use Rattle.std.specs.Prelude.{◌≡◌, ◌⊎◌, ℕ, Bool, true, List, Some}
use Rattle.model_tree.specs.Tree.{LabelTree}
use Rattle.model_tree.specs.Scalars.{has_scalars}
use Rattle.model_tree.specs.Signature.{PlainSignature, HasType}
use Rattle.model_grammar.specs.Syntax.{X, Xs, Body, Item}
use Rattle.model_meaning.specs.Meaning.{IsTreeOf, input_type, output_type, signature_named}
use Rattle.model_meaning.specs.Values.{Printed, IsValue}
use Rattle.model_run.specs.Items.{used_in, used_in_all, has_classes, some_has_classes, OfSomeTree, OfSomeTreeIn, Finds, IsApplied}
use Rattle.model_run.specs.Causes.{AreAllLarge, IsLarge, HasFarOutput, HasLoad, HasNoOutput, HasTwoOutputs, HasCause, label_number, too_much, no_output, two_outputs, empty_language, too_large}
use Rattle.model_run.specs.Printable.{IsPrintable}
use Rattle.fast_eval.specs.declared.stops.EvalStop.{EvalStop}
use Rattle.fast_eval.specs.declared.stops.EvalStop.TheVariants.{Classes, Wide, Range, Memory}
use Rattle.sttr_apply.specs.Plain.{load_of}
use Rattle.fast_eval.specs.Stops.{IsStopOf, IsCauseFor}
use Rattle.tree_values.specs.declared.stops.ValueStop.{ValueStop}
use Rattle.tree_values.specs.declared.stops.ValueStop.TheVariants.{Stopped, NoTree, TooLarge, LabelRange, Outputs, NoOutput, SeveralOutputs}
use Rattle.tree_values.specs.declared.stops.TypedTree.{TypedTree}
use Rattle.tree_values.specs.declared.stops.TwoOutputs.{TwoOutputs}
use Rattle.tree_values.specs.Trees.{meant}

-- a language without trees is to be found a tree of
abbrev pub FindsNothing : List Item → PlainSignature → X → Type 0
FindsNothing items = Finds (λ x. (t : LabelTree) → ¬ (IsTreeOf items x t))

-- one whose trees are all large
abbrev pub FindsLarge : List Item → PlainSignature → X → Type 0
FindsLarge items = Finds (λ x. AreAllLarge (IsTreeOf items x))

-- the expression has a value that is large
abbrev pub HasLarge : List Item → List Printed → PlainSignature → X → Type 0
HasLarge items printed signature x = (t : LabelTree) × IsValue items printed signature x t × IsLarge t

-- the signature of its type
abbrev pub type_of_tree : List Item → TypedTree → PlainSignature
type_of_tree items t = signature_named items (Some t.of)

-- a transformation is applied to the tree, which has no output
abbrev pub AppliesToNone : List Item → List Printed → TypedTree → PlainSignature → X → Type 0
AppliesToNone items printed t = IsApplied items printed (λ f s. (s ≡ meant t.tree) × (type_of_tree items t ≡ input_type items f) × HasNoOutput items f (meant t.tree) × IsPrintable (meant t.tree))

-- one is applied to a tree that has these two
abbrev pub AppliesToTwo : List Item → List Printed → TwoOutputs → PlainSignature → X → Type 0
AppliesToTwo items printed two =
    IsApplied items printed (λ f s. (s ≡ meant two.input.tree) × (type_of_tree items two.input ≡ input_type items f) × (signature_named items (Some two.into) ≡ output_type items f)
    × HasTwoOutputs items f (meant two.input.tree) (meant two.first) (meant two.second) × IsPrintable (meant two.input.tree) × IsPrintable (meant two.first) × IsPrintable (meant two.second))

-- the texts of the trees that a stop shows are of Unicode scalars
abbrev pub AreShown : TwoOutputs → Type 0
AreShown two = (has_scalars (meant two.input.tree) ≡ true) × (has_scalars (meant two.first) ≡ true) × (has_scalars (meant two.second) ≡ true)

-- the trees that a stop shows have their types
abbrev pub IsStopTyped : List Item → ValueStop → Type 0
IsStopTyped items (NoOutput t) = HasType (type_of_tree items t) (meant t.tree)
IsStopTyped items (SeveralOutputs two) =
    HasType (type_of_tree items two.input) (meant two.input.tree) × HasType (signature_named items (Some two.into)) (meant two.first) × HasType (signature_named items (Some two.into)) (meant two.second)
IsStopTyped items stop = Unit {0}

-- where it has to do with classes, some operation tells trees apart
abbrev pub NeedsClasses : Bool → EvalStop → Type 0
NeedsClasses has Classes = has ≡ true
NeedsClasses has (Wide c) = has ≡ true
NeedsClasses has (Range n) = Unit {0}
NeedsClasses has Memory = Unit {0}

-- The cause of a stop, where these expressions are used and OfSome tells what holds of some tree expression.
module _ (items : List Item) (printed : List Printed) (most : ℕ) (has : Bool) (used : List X) (OfSome : (PlainSignature → X → Type 0) → Type 0) where
  abbrev pub IsStopBy : ValueStop → Type 0
  IsStopBy (Stopped s) = NeedsClasses has s × IsStopOf items used most s
  IsStopBy NoTree = OfSome (FindsNothing items)
  IsStopBy TooLarge = OfSome (FindsLarge items) ⊎ OfSome (HasLarge items printed)
  IsStopBy (LabelRange n) = OfSome (IsApplied items printed (HasFarOutput items n))
  IsStopBy (Outputs load) = OfSome (IsApplied items printed (HasLoad items (load_of load)))
  IsStopBy (NoOutput t) = has_scalars (meant t.tree) ≡ true → OfSome (AppliesToNone items printed t)
  IsStopBy (SeveralOutputs two) = AreShown two → OfSome (AppliesToTwo items printed two)

module _ (items : List Item) (printed : List Printed) (most : ℕ) (signature : PlainSignature) where
  -- of an expression, and of several
  abbrev pub IsValueStop : X → ValueStop → Type 0
  IsValueStop x = IsStopBy items printed most (has_classes x) (used_in x) (λ P. OfSomeTree items P signature x)

  abbrev pub IsStopIn : Xs → ValueStop → Type 0
  IsStopIn xs = IsStopBy items printed most (some_has_classes xs) (used_in_all xs) (λ P. OfSomeTreeIn items P signature xs)

-- the item has the cause, where these trees were printed before it
abbrev pub IsCauseOf : List Item → ℕ → List Printed → Body → ValueStop → Type 0
IsCauseOf items limit printed body (Stopped s) = IsCauseFor items limit printed body s
IsCauseOf items limit printed body NoTree = HasCause items limit printed body empty_language
IsCauseOf items limit printed body TooLarge = HasCause items limit printed body too_large
IsCauseOf items limit printed body (LabelRange n) = HasCause items limit printed body (label_number n)
IsCauseOf items limit printed body (Outputs load) = HasCause items limit printed body (too_much (load_of load))
IsCauseOf items limit printed body (NoOutput t) = has_scalars (meant t.tree) ≡ true → HasCause items limit printed body (no_output (type_of_tree items t) (meant t.tree))
IsCauseOf items limit printed body (SeveralOutputs two) =
    AreShown two → HasCause items limit printed body (two_outputs (type_of_tree items two.input) (meant two.input.tree) (signature_named items (Some two.into)) (meant two.first) (meant two.second))
