-- What is said of the guards of a well-formed program, as far as an automaton needs it.
use Rattle.std.specs.Prelude.{◌≡◌, ℤ, true, List, Option, Some, None}
use Rattle.model_tree.specs.Signature.{PlainField}
use Rattle.model_grammar.specs.Syntax.{Expr}
use Rattle.model_guard.specs.Forms.{forms_in, HasOutside}
use Rattle.model_guard.specs.Guards.{is_guard}

-- what is written is a guard, and each form in it has its numbers in range
abbrev pub GuardStands : List PlainField → Option Expr → Type 0
GuardStands fields None = Unit {0}
GuardStands fields (Some e) = (is_guard fields e ≡ true) × ((n : ℤ) → HasOutside (forms_in fields e) n → ⊥)
