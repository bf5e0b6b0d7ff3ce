-- The children of literals that are still to be checked.
use Rattle.std.specs.Prelude.{ℕ, suc, ◌+◌, List, [], ◌∷◌, ◌++◌, map}
use Rattle.model_grammar.specs.Syntax.{X, named, one, two, literal, Xs, no_x, and_x}
use Rattle.fast_syntax.specs.declared.items.X as code
use Rattle.fast_syntax.specs.Slices.{plain_children}
use Rattle.program_check.specs.declared.waiting.Waiting.{Waiting}

-- the rows before others, of which the last goes first
abbrev pub before_these : {A : Type 0} → List A → List (List A) → List A
before_these later [] = later
before_these later (row ∷ rows) = before_these (row ++ later) rows

-- the children, in the order in which they are checked
abbrev pub those_of : Waiting → List code.X
those_of waiting = waiting.row.now ++ before_these [] (map (λ row. row.now) waiting.rows.items)

abbrev pub plain_waiting : Waiting → Xs
plain_waiting waiting = plain_children (those_of waiting)

-- how often an expression is looked at, at most
abbrev mutual
  pub weight : X → ℕ
  weight (named name) = 1
  weight (one op place x) = suc (suc (weight x))
  weight (two op place x y) = suc (suc (weight x + weight y))
  weight (literal name labels xs) = suc (suc (suc (suc (weights xs))))

  pub weights : Xs → ℕ
  weights no_x = 0
  weights (and_x x xs) = weight x + weights xs
