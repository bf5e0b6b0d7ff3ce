-- The operands of a chain while they are read.
use Rattle.std.specs.Prelude.{◌≡◌, Bool, false, List, [], ◌∷◌, ◌++◌, map}
use Rattle.fast_fault.specs.declared.place.Pos.{Pos}
use Rattle.fast_syntax.specs.declared.expressions.SumPart.{SumPart}
use Rattle.fast_syntax.specs.declared.expressions.ProdPart.{ProdPart}
use Rattle.fast_syntax.specs.Plain.{plain_expr}
use Rattle.model_grammar.specs.declared.Chain.{Chain}
use Rattle.model_grammar.specs.declared.Chain.TheVariants.{Disjunction, Conjunction, Sum, Product}
use Rattle.model_grammar.specs.Syntax.{Expr, Parts, no_parts, part, negation, minus}
use Rattle.label_reader.specs.declared.operators.Prefix.{Prefix}
use Rattle.label_reader.specs.declared.operators.Prefix.TheVariants as before
use Rattle.label_reader.specs.declared.operands.Operands.{Operands}
use Rattle.label_reader.specs.declared.operands.Operands.TheVariants as code

abbrev pub kind_of : Operands → Chain
kind_of (code.Or all) = Disjunction
kind_of (code.And all) = Conjunction
kind_of (code.Sum all) = Sum
kind_of (code.Prod all) = Product

abbrev pub plain_part : SumPart → Bool × Expr
plain_part p = (p.minus, plain_expr p.part)

abbrev pub plain_factor : ProdPart → Bool × Expr
plain_factor p = (p.remainder, plain_expr p.part)

-- the operands, each with its mark
abbrev pub marked : Operands → List (Bool × Expr)
marked (code.Or all) = map (λ e. (false, plain_expr e)) all.items
marked (code.And all) = map (λ e. (false, plain_expr e)) all.items
marked (code.Sum all) = map plain_part all.items
marked (code.Prod all) = map plain_factor all.items

-- in a disjunction and a conjunction no operand is marked
abbrev pub mark_in : Chain → Bool → Bool
mark_in Disjunction mark = false
mark_in Conjunction mark = false
mark_in Sum mark = mark
mark_in Product mark = mark

abbrev pub parts_from : List (Bool × Expr) → Parts
parts_from [] = no_parts
parts_from (m ∷ more) = part m.0 m.1 (parts_from more)

-- one operand more
abbrev pub IsMore : Chain → List (Bool × Expr) → Bool → Expr → Chain → List (Bool × Expr) → Type 0
IsMore kind before mark x own now = (own ≡ kind) × (now ≡ before ++ (mark_in kind mark, x) ∷ [])

-- two operands, and no more
abbrev pub AreTwoOf : Chain → Bool → Expr → Expr → Chain → List (Bool × Expr) → Type 0
AreTwoOf kind mark x y own now = (own ≡ kind) × (now ≡ (mark_in kind false, x) ∷ (mark_in kind mark, y) ∷ [])

-- the expression that an operator makes of the operand behind it
abbrev pub prefixed : Prefix → Pos → Expr → Expr
prefixed before.Not place x = negation place x
prefixed before.Minus place x = minus place x
