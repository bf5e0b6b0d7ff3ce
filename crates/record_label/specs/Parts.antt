-- The parts of a conjunction or a disjunction, of which none is marked; forms that are in range.
use Rattle.std.specs.Prelude.{ℤ, false, List, [], ◌∷◌}
use Rattle.model_form.specs.Form.{Form}
use Rattle.model_guard.specs.Forms.{HasOutside}
use Rattle.model_grammar.specs.Syntax.{Expr, Parts, no_parts, part}

abbrev pub unmarked : List Expr → Parts
unmarked [] = no_parts
unmarked (e ∷ es) = part false e (unmarked es)

-- none of the forms has a number outside its range
abbrev pub AreWithin : List Form → Type 0
AreWithin forms = (n : ℤ) → HasOutside forms n → ⊥
