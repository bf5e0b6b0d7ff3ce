-- The plain form of a chain is that of its operands.
use Rattle.std.proofs.Common.{◌≡◌, Bool, false, List, [], ◌∷◌, ◌++◌, map, refl, sym, ap, subst, ◌∙◌, Result, Ok, Err}
use Rattle.fast_syntax.specs.declared.expressions.Expr.{Expr}
use Rattle.fast_syntax.specs.declared.expressions.SumPart.{SumPart}
use Rattle.fast_syntax.specs.declared.expressions.ProdPart.{ProdPart}
use Rattle.fast_syntax.specs.Plain.{plain_expr}
use Rattle.fast_syntax.specs.Slices.{plain_operands, plain_sum_parts, plain_prod_parts}
use Rattle.model_grammar.specs.declared.Chain.{Chain}
use Rattle.model_grammar.specs.Syntax as plain
use Rattle.model_grammar.specs.Syntax.{part}
use Rattle.label_reader.specs.declared.operands.Operands.{Operands}
use Rattle.label_reader.specs.declared.stop.Stop.{Stop}
use Rattle.label_reader.specs.declared.stop.Stop.TheVariants.{Memory, Wrong}
use Rattle.label_reader.specs.Results.{IfMade}
use Rattle.label_reader.specs.Operands.{kind_of, marked, mark_in, plain_part, plain_factor, IsMore, AreTwoOf, parts_from}

pub operands_are : (es : List Expr) → plain_operands es ≡ parts_from (map (λ e. (false, plain_expr e)) es)
operands_are [] = refl
operands_are (e ∷ es) = ap (λ l. part false (plain_expr e) l) (operands_are es)

pub sums_are : (ps : List SumPart) → plain_sum_parts ps ≡ parts_from (map plain_part ps)
sums_are [] = refl
sums_are (p ∷ ps) = ap (λ l. part p.minus (plain_expr p.part) l) (sums_are ps)

pub products_are : (ps : List ProdPart) → plain_prod_parts ps ≡ parts_from (map plain_factor ps)
products_are [] = refl
products_are (p ∷ ps) = ap (λ l. part p.remainder (plain_expr p.part) l) (products_are ps)

-- What one operand more makes of the operands that were kept while it was read.
pub one_more : (self : Operands) {before opened : Operands} {read : Result Expr Stop} {operand : Expr} (now : List (Bool × plain.Expr)) (mark : Bool) → (before ≡ self) × (read ≡ Ok operand) → before ≡ opened → now ≡ marked opened ++ (mark_in (kind_of opened) mark, plain_expr operand) ∷ []
    → (x : Expr) × (read ≡ Ok x) × IsMore (kind_of self) (marked self) mark (plain_expr x) (kind_of opened) now
one_more self {operand = operand} now mark kept is more = let own = sym is ∙ kept.0 in (operand, kept.1, (ap kind_of own, more ∙ ap (λ s. marked s ++ (mark_in (kind_of s) mark, plain_expr operand) ∷ []) own))

same_ok : {A : Type 0} {x y : A} {r : Result A Stop} → r ≡ Ok x → r ≡ Ok y → x ≡ y
same_ok {A = A} {x = x} {y = y} one two = cc

-- Two operands, one after the other.
pub two_made : (mark : Bool) {kind : Chain} {first second last : Expr} {read : Result (Expr × Expr) Stop} (none : Operands) {one : Operands} {made : Result Operands Stop} (r : Result Operands Stop) → read ≡ Ok (first, second) → kind_of none ≡ kind → marked none ≡ [] → made ≡ Ok one
    → IfMade (Ok first) (λ x all. IsMore (kind_of none) (marked none) false (plain_expr x) (kind_of all) (marked all)) made → last ≡ second → IfMade (Ok last) (λ x all. IsMore (kind_of one) (marked one) mark (plain_expr x) (kind_of all) (marked all)) r
    → IfMade read (λ both all. AreTwoOf kind mark (plain_expr both.0) (plain_expr both.1) (kind_of all) (marked all)) r
two_made mark {kind = kind} {first = first} {second = second} none {one = one} (Ok all) read is_kind is_none is_made made_one is_last made_two =
    let a = subst (λ (m : Result Operands Stop). IfMade (Ok first) (λ x all. IsMore (kind_of none) (marked none) false (plain_expr x) (kind_of all) (marked all)) m) is_made made_one in
    let own : kind_of one ≡ kind = a.2.0 ∙ is_kind in
    let parts : marked one ≡ (mark_in kind false, plain_expr first) ∷ [] = a.2.1 ∙ (λ i. is_none i ++ (mark_in (is_kind i) false, plain_expr (same_ok a.1 refl i)) ∷ []) in
    let x = same_ok made_two.1 refl ∙ is_last in
    ((first, second), read, (made_two.2.0 ∙ own, made_two.2.1 ∙ (λ i. parts i ++ (mark_in (own i) mark, plain_expr (x i)) ∷ [])))
two_made mark none (Err Wrong) read is_kind is_none is_made made_one is_last made_two = absurd cc
two_made mark none (Err Memory) read is_kind is_none is_made made_one is_last made_two = tt
