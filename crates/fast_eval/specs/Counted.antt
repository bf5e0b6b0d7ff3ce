-- The size of the least automaton, where an expression asks for it.
use Rattle.std.specs.Prelude.{◌≡◌, ℕ, List, Option, Some, None}
use Rattle.model_grammar.specs.declared.Op1.TheVariants.{Minimize}
use Rattle.model_grammar.specs.Syntax.{X, one, Item}
use Rattle.model_run.specs.Counts.{IsCount}
use Rattle.model_run.specs.Outcomes.{Outcome, silent, minimal_line}

-- there is a number, which is that of the language
abbrev pub HasCount : List Item → X → Option ℕ → Type 0
HasCount items x None = ⊥
HasCount items x (Some n) = IsCount items x n

-- it is asked for by a `minimize` that isn't inside of another operation
abbrev pub IsCounted : List Item → X → Option ℕ → Type 0
IsCounted items (one Minimize place x) count = HasCount items x count
IsCounted items x count = count ≡ None

-- the outcome of the definition of a name
abbrev pub outcome_of : List ℕ → Option ℕ → Outcome
outcome_of name None = silent
outcome_of name (Some n) = minimal_line name n
