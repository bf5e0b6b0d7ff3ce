-- What stops the evaluation of expressions, and what that shows of them.
use Rattle.std.specs.Prelude.{◌≡◌, ℕ, Bool, true, false, List, [], ◌∷◌, Contains}
use Rattle.model_grammar.specs.Syntax.{X, named, one, two, literal, Body, Item}
use Rattle.model_meaning.specs.Values.{Printed}
use Rattle.model_run.specs.Parts.{HasMoreTrees}
use Rattle.model_run.specs.Items.{has_classes}
use Rattle.model_run.specs.Causes.{IsTooWide, HasCause, more_classes, too_wide, form_number}
use Rattle.model_layers.specs.Compared.{HasOutside}
use Rattle.lin_solve.specs.declared.chain.Chain.{Chain}
use Rattle.lin_solve.specs.Shown.{bits_of}
use Rattle.sta_classes.specs.declared.stop.ClassStop.{ClassStop}
use Rattle.sta_classes.specs.declared.stop.ClassStop.TheVariants as classes
use Rattle.sttr_run.specs.declared.running.RunStop.{RunStop}
use Rattle.sttr_run.specs.declared.running.RunStop.TheVariants as run
use Rattle.fast_eval.specs.declared.stops.EvalStop.{EvalStop}
use Rattle.fast_eval.specs.declared.stops.EvalStop.TheVariants.{Classes, Wide, Range, Memory}

-- the expressions tell more trees apart than the limit, a chain over their comparisons is too wide, or a form of one of them has
-- the number outside its range
abbrev pub IsStopOf : List Item → List X → ℕ → EvalStop → Type 0
IsStopOf items es most Classes = HasMoreTrees items es most
IsStopOf items es most (Wide c) = IsTooWide items es (bits_of c.width)
IsStopOf items es most (Range n) = (e : X) × Contains es e × HasOutside items e n
IsStopOf items es most Memory = Unit {0}

-- more than a name
abbrev pub is_operation : X → Bool
is_operation (named n) = false
is_operation (one op place x) = true
is_operation (two op place x y) = true
is_operation (literal name labels xs) = true

-- the same of one expression: an operation that tells trees apart stands in it where it has to do with classes, and it is more
-- than a name where it has to do with numbers
abbrev pub StopsExpression : List Item → X → ℕ → EvalStop → Type 0
StopsExpression items x most Classes = (has_classes x ≡ true) × HasMoreTrees items (x ∷ []) most
StopsExpression items x most (Wide c) = (has_classes x ≡ true) × IsTooWide items (x ∷ []) (bits_of c.width)
StopsExpression items x most (Range n) = (is_operation x ≡ true) × HasOutside items x n
StopsExpression items x most Memory = Unit {0}

-- the item has the cause, where these trees were printed before it
abbrev pub IsCauseFor : List Item → ℕ → List Printed → Body → EvalStop → Type 0
IsCauseFor items limit trees body Classes = HasCause items limit trees body (more_classes limit)
IsCauseFor items limit trees body (Wide c) = HasCause items limit trees body (too_wide (bits_of c.width))
IsCauseFor items limit trees body (Range n) = HasCause items limit trees body (form_number n)
IsCauseFor items limit trees body Memory = Unit {0}

-- where the search for classes stops, and where a put does
abbrev pub by_classes : ClassStop Chain → EvalStop
by_classes classes.Classes = Classes
by_classes (classes.Wide c) = Wide c
by_classes classes.Memory = Memory

abbrev pub by_run : RunStop → EvalStop
by_run (run.Range n) = Range n
by_run run.Memory = Memory
