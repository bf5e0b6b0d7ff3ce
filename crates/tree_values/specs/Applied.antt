-- Transformations that are applied to values.
use Rattle.std.specs.Prelude.{◌≡◌, ℕ, List, [], ◌∷◌, Option, Some}
use Rattle.model_tree.specs.Tree.{LabelTree}
use Rattle.model_tree.specs.Signature.{HasType}
use Rattle.model_grammar.specs.Syntax.{X, Item}
use Rattle.model_meaning.specs.Meaning.{input_type, output_type, signature_named}
use Rattle.model_meaning.specs.Values.{IsOnlyOutput}
use Rattle.model_run.specs.Causes.{HasFarOutput, HasLoad, HasNoOutput, HasTwoOutputs}
use Rattle.fast_eval.specs.Found.{IsInLimits}
use Rattle.sttr_apply.specs.Plain.{load_of}
use Rattle.fast_eval.specs.Outputs.{AreOutputsOf}
use Rattle.tree_values.specs.declared.sizes.Measured.{Measured}
use Rattle.tree_values.specs.Stops.{type_of_tree}
use Rattle.fast_eval.specs.Stops.{StopsExpression}
use Rattle.fast_eval.specs.declared.stops.OutputStop.{OutputStop}
use Rattle.fast_eval.specs.declared.stops.OutputStop.TheVariants as outputs
use Rattle.tree_values.specs.declared.applied.Choice.{Choice}
use Rattle.tree_values.specs.declared.applied.Choice.TheVariants.{Nothing, Only, Two}
use Rattle.tree_values.specs.declared.stops.ValueStop.{ValueStop}
use Rattle.tree_values.specs.declared.stops.ValueStop.TheVariants.{Stopped, NoTree, TooLarge, LabelRange, Outputs, NoOutput, SeveralOutputs}
use Rattle.tree_values.specs.Trees.{meant}
use Rattle.tree_values.specs.Values.{IsHeld}

-- why there is no list of outputs is why there is no value
abbrev pub stop_of : OutputStop → ValueStop
stop_of (outputs.Stopped s) = Stopped s
stop_of (outputs.Range n) = LabelRange n
stop_of (outputs.Load load) = Outputs load

-- the only one of the trees, where there is room for it; that there is none; or the first two
abbrev pub IsChoice : ℕ → List LabelTree → Choice → Type 0
IsChoice room us Nothing = us ≡ []
IsChoice room us (Only v) = (u : LabelTree) × (us ≡ u ∷ []) × IsHeld room u v
IsChoice room us (Two t u) = (rest : List LabelTree) × (us ≡ meant t ∷ meant u ∷ rest)

-- the outputs for the tree, and the choice among them
pub record IsChosen (items : List Item) (f : X) (t : LabelTree) (room : ℕ) (c : Choice) : Type 0 where
  pub trees : List LabelTree
  pub are : AreOutputsOf items f t trees
  pub choice : IsChoice room trees c

-- the only output, within the limits, which is held where there is room for it
pub record HasOutput (items : List Item) (f : X) (t : LabelTree) (room : ℕ) (v : Option Measured) : Type 0 where
  pub tree : LabelTree
  pub is : IsOnlyOutput items f t tree
  pub typed : HasType (output_type items f) tree
  pub limits : IsInLimits tree
  pub held : IsHeld room tree v

-- why there is none
abbrev pub IsOutputStop : List Item → ℕ → X → LabelTree → ValueStop → Type 0
IsOutputStop items most f t (Stopped s) = StopsExpression items f most s
IsOutputStop items most f t NoTree = ⊥
IsOutputStop items most f t TooLarge = ⊥
IsOutputStop items most f t (LabelRange n) = HasFarOutput items n f t
IsOutputStop items most f t (Outputs load) = HasLoad items (load_of load) f t
IsOutputStop items most f t (NoOutput v) = (meant v.tree ≡ t) × (type_of_tree items v ≡ input_type items f) × HasNoOutput items f t
IsOutputStop items most f t (SeveralOutputs two) =
    (meant two.input.tree ≡ t) × (type_of_tree items two.input ≡ input_type items f) × (signature_named items (Some two.into) ≡ output_type items f) × HasTwoOutputs items f t (meant two.first) (meant two.second)
    × HasType (output_type items f) (meant two.first) × HasType (output_type items f) (meant two.second) × IsInLimits (meant two.first) × IsInLimits (meant two.second)
