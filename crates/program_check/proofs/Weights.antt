-- Rows of children that wait, and how often they are looked at, at most.
use Rattle.std.proofs.Common.{◌≡◌, ◌+◌, ◌<◌, List, [], ◌∷◌, ◌++◌, map, refl, ap, ◌∙◌, arith}
use Rattle.std.proofs.lemmas.List.{map-append}
use Rattle.model_grammar.specs.Syntax.{X, named, one, two, literal}
use Rattle.fast_syntax.specs.declared.items.X as code
use Rattle.fast_syntax.specs.Slices.{plain_children}
use Rattle.program_check.specs.Waiting.{before_these, weight, weights}

added : {A : Type 0} (later : List A) (rows : List (List A)) (row : List A) → before_these later (rows ++ row ∷ []) ≡ row ++ before_these later rows
added later [] row = refl
added later (first ∷ rows) row = added (first ++ later) rows row

-- a row that is added goes first
pub row_added : {R A : Type 0} (f : R → List A) (rows new : List R) (row : R) → new ≡ rows ++ row ∷ [] → before_these [] (map f new) ≡ f row ++ before_these [] (map f rows)
row_added f rows new row is = ap (λ rs. before_these [] (map f rs)) is ∙ ap (before_these []) (map-append f rows (row ∷ [])) ∙ added [] (map f rows) (f row)

-- an expression is looked at once at least
pub some_weight : (x : X) → 0 < weight x
some_weight (named name) = omega arith
some_weight (one op place x) = omega arith
some_weight (two op place x y) = omega arith
some_weight (literal name labels xs) = omega arith

pub weights-append : (xs ys : List code.X) → weights (plain_children (xs ++ ys)) ≡ weights (plain_children xs) + weights (plain_children ys)
weights-append [] ys = omega arith
weights-append (x ∷ xs) ys = let later = weights-append xs ys in omega (arith, later)
