-- What answers say.
use Rattle.std.specs.Prelude.{◌≡◌, ℕ, Bool, true, List, Option, Some, None}
use Rattle.fast_fault.specs.declared.place.Pos.{Pos}
use Rattle.fast_fault.specs.declared.code.Code.{Code}
use Rattle.fast_fault.specs.declared.code.Code.TheVariants as codes
use Rattle.model_tree.specs.Tree.{Tree, relabel}
use Rattle.model_tree.specs.Scalars.{has_scalars}
use Rattle.model_tree.specs.Signature.{PlainSignature, HasType}
use Rattle.fast_tree.specs.Entries.{label_meaning}
use Rattle.fast_tree.specs.declared.label.Label.{Label}
use Rattle.model_grammar.specs.Syntax.{Item}
use Rattle.model_meaning.specs.Meaning.{signature_named}
use Rattle.model_run.specs.Causes.{Stop, more_classes, too_wide, form_number, label_number, too_much, not_composable, empty_language, no_output, two_outputs, too_large}
use Rattle.model_run.specs.Outcomes.{Outcome, silent, tree_line, minimal_line, true_verdict, tree_verdict}
use Rattle.lin_solve.specs.Shown.{bits_of}
use Rattle.fast_compose.specs.Stops.{meeting_of, plain_uncomposable}
use Rattle.fast_compose.specs.declared.stops.ComposeStop.{ComposeStop}
use Rattle.fast_compose.specs.declared.stops.ComposeStop.TheVariants as composing
use Rattle.fast_eval.specs.declared.stops.EvalStop.{EvalStop}
use Rattle.fast_eval.specs.declared.stops.EvalStop.TheVariants as evaluation
use Rattle.fast_eval.specs.declared.stops.OutputStop.{OutputStop}
use Rattle.fast_eval.specs.declared.stops.OutputStop.TheVariants as outputs
use Rattle.sttr_apply.specs.Plain.{load_of}
use Rattle.tree_values.specs.declared.stops.ValueStop.{ValueStop}
use Rattle.tree_values.specs.declared.stops.ValueStop.TheVariants as values
use Rattle.tree_values.specs.Stops.{type_of_tree, AreShown}
use Rattle.tree_values.specs.Trees.{meant}
use Rattle.fast_session.specs.declared.answers.Cause.{Cause}
use Rattle.fast_session.specs.declared.answers.Cause.TheVariants.{Classes, Width, FormRange, LabelRange, Outputs, NotComposable, EmptyLanguage, NoOutput, SeveralOutputs, TreeSize}
use Rattle.fast_session.specs.declared.answers.Stopped.{Stopped}
use Rattle.fast_session.specs.declared.answers.Stopped.TheVariants as stopped
use Rattle.fast_session.specs.declared.answers.Line.{Line}
use Rattle.fast_session.specs.declared.answers.Line.TheVariants as line
use Rattle.fast_session.specs.declared.answers.Step.{Step}
use Rattle.fast_session.specs.declared.answers.Step.TheVariants as step
use Rattle.fast_session.specs.declared.answers.Halt.{Halt}
use Rattle.fast_session.specs.declared.answers.Halt.TheVariants as halt
use Rattle.fast_session.specs.declared.answers.Ending.{Ending}
use Rattle.fast_session.specs.declared.answers.Ending.TheVariants as ending

-- ---- causes

abbrev pub code_of : Cause → Code
code_of (Classes limit) = codes.Classes
code_of (Width bits) = codes.Width
code_of (FormRange n) = codes.FormRange
code_of (LabelRange n) = codes.LabelRange
code_of (Outputs load) = codes.Outputs
code_of (NotComposable u) = codes.NotComposable
code_of EmptyLanguage = codes.EmptyLanguage
code_of (NoOutput t) = codes.OutputCount
code_of (SeveralOutputs two) = codes.OutputCount
code_of TreeSize = codes.TreeSize

module _ (items : List Item) where
  abbrev pub plain_cause : Cause → Stop
  plain_cause (Classes limit) = more_classes limit
  plain_cause (Width bits) = too_wide bits
  plain_cause (FormRange n) = form_number n
  plain_cause (LabelRange n) = label_number n
  plain_cause (Outputs load) = too_much (load_of load)
  plain_cause (NotComposable u) = not_composable (plain_uncomposable items u)
  plain_cause EmptyLanguage = empty_language
  plain_cause (NoOutput t) = no_output (type_of_tree items t) (meant t.tree)
  plain_cause (SeveralOutputs two) = two_outputs (type_of_tree items two.input) (meant two.input.tree) (signature_named items (Some two.into)) (meant two.first) (meant two.second)
  plain_cause TreeSize = too_large

  -- the trees that the refusal shows have their types
  abbrev pub IsCauseTyped : Cause → Type 0
  IsCauseTyped (NotComposable u) = HasType (signature_named items (Some u.meeting.of)) (meeting_of u)
  IsCauseTyped (NoOutput t) = HasType (type_of_tree items t) (meant t.tree)
  IsCauseTyped (SeveralOutputs two) =
      HasType (type_of_tree items two.input) (meant two.input.tree) × HasType (signature_named items (Some two.into)) (meant two.first) × HasType (signature_named items (Some two.into)) (meant two.second)
  IsCauseTyped cause = Unit {0}

-- their texts are of Unicode scalars, which printing them shows
abbrev pub CanBeShown : Cause → Type 0
CanBeShown (NotComposable u) = has_scalars (meeting_of u) ≡ true
CanBeShown (NoOutput t) = has_scalars (meant t.tree) ≡ true
CanBeShown (SeveralOutputs two) = AreShown two
CanBeShown cause = Unit {0}

-- what stops an item where the evaluation of expressions stops, and where a tree expression has no value that can be shown
abbrev pub stopped_by : ℕ → EvalStop → Stopped
stopped_by limit evaluation.Classes = stopped.By (Classes limit)
stopped_by limit (evaluation.Wide c) = stopped.By (Width (bits_of c.width))
stopped_by limit (evaluation.Range n) = stopped.By (FormRange n)
stopped_by limit evaluation.Memory = stopped.Memory

-- where it isn't known that compositions can be made
abbrev pub stopped_composing : ℕ → ComposeStop → Stopped
stopped_composing limit composing.Classes = stopped.By (Classes limit)
stopped_composing limit (composing.Wide c) = stopped.By (Width (bits_of c.width))
stopped_composing limit (composing.NotComposable u) = stopped.By (NotComposable u)
stopped_composing limit composing.TooLarge = stopped.By TreeSize
stopped_composing limit composing.Memory = stopped.Memory

-- where there is no list of outputs
abbrev pub stopped_outputs : ℕ → OutputStop → Stopped
stopped_outputs limit (outputs.Stopped s) = stopped_by limit s
stopped_outputs limit (outputs.Range n) = stopped.By (LabelRange n)
stopped_outputs limit (outputs.Load load) = stopped.By (Outputs load)

abbrev pub stopped_value : ℕ → ValueStop → Stopped
stopped_value limit (values.Stopped s) = stopped_by limit s
stopped_value limit values.NoTree = stopped.By EmptyLanguage
stopped_value limit values.TooLarge = stopped.By TreeSize
stopped_value limit (values.LabelRange n) = stopped.By (LabelRange n)
stopped_value limit (values.Outputs load) = stopped.By (Outputs load)
stopped_value limit (values.NoOutput t) = stopped.By (NoOutput t)
stopped_value limit (values.SeveralOutputs two) = stopped.By (SeveralOutputs two)

-- ---- lines

-- a verdict on an assertion in this line of the text, with the tree that goes with it
abbrev pub verdict_on : ℕ → Bool → PlainSignature → Option (Tree Label) → Outcome
verdict_on n passes signature None = true_verdict n passes
verdict_on n passes signature (Some t) = tree_verdict n passes signature (relabel label_meaning t)

abbrev pub line_outcome : List Item → Line → Outcome
line_outcome items (line.Tree name of t) = tree_line name (signature_named items (Some of)) (relabel label_meaning t)
line_outcome items (line.Minimal name n) = minimal_line name n
line_outcome items (line.Verdict n passes of shown) = verdict_on n passes (signature_named items (Some of)) shown

-- an item without a line is silent
abbrev pub given : List Item → Option Line → Outcome
given items None = silent
given items (Some l) = line_outcome items l

-- ---- steps and halts

abbrev pub step_of : Option Line → Step
step_of None = step.Silent
step_of (Some l) = step.Line l

-- at an item that isn't done
abbrev pub halt_at : Pos → Stopped → Halt
halt_at place (stopped.By cause) = halt.Refused cause place
halt_at place stopped.Memory = halt.Memory

-- how a session ends with a halt, and what it answers from then on
abbrev pub ending_of : Halt → Ending
ending_of (halt.Refused cause place) = ending.Refused (record { code = code_of cause; place = place })
ending_of (halt.Ended refusal) = ending.Refused refusal
ending_of halt.Memory = ending.Memory

abbrev pub again : Ending → Halt
again (ending.Refused refusal) = halt.Ended refusal
again ending.Memory = halt.Memory
