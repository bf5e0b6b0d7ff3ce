-- Without its condition, composition would give an output where there is no middle tree.
use Rattle.std.specs.Prelude.{ℕ, true, [], ◌∷◌, Some, Contains}
use Rattle.model_tree.specs.Tree.{Tree, node, Trees, no_trees, tree}
use Rattle.model_sttr.specs.Terms.{Term, on, build, no_parts, part}
use Rattle.model_sttr.specs.Transducer.{Head, run, OutRule, Sttr}
use Rattle.sttr_theory.specs.Triples.{Triple, Way, Middle, Works}
use Rattle.sttr_theory.specs.Ways.{ways}

abbrev pub plain_rule : ℕ → Term Head (ℕ → ℕ) → OutRule ℕ
plain_rule c p = record { rule = record { constructor = c; guard = λ l. true; demands = [] }; term = p }

abbrev pub leaf : ℕ → Tree ℕ
leaf c = node c 0 no_trees

abbrev pub to_leaf : ℕ → Term Head (ℕ → ℕ)
to_leaf c = build c (λ l. l) no_parts

-- the state takes leaf 0 to leaf 0 or to leaf 1
abbrev pub first : Sttr ℕ
first = record { looks = []; rules = (plain_rule 0 (to_leaf 0) ∷ plain_rule 0 (to_leaf 1) ∷ []) ∷ [] }

-- state 0 takes 2(x) to 3(state 1 of x, state 1 of x), and state 1 takes each leaf to itself
abbrev pub second : Sttr ℕ
second = record {
  looks = [];
  rules =
      (plain_rule 2 (build 3 (λ l. l) (part (on (run 1) 0) (part (on (run 1) 0) no_parts))) ∷ [])
      ∷ (plain_rule 0 (to_leaf 0) ∷ plain_rule 1 (to_leaf 1) ∷ []) ∷ [];
}

-- 2(the first's state of the child), for the second's state 0
abbrev pub over : Term Head (ℕ → ℕ)
over = build 2 (λ l. l) (part (on (run 0) 0) no_parts)

abbrev pub asked_of : Triple
asked_of = record { first = run 0; all = []; second = Some (run 0) }

abbrev pub inputs : Trees ℕ
inputs = tree (leaf 0) no_trees

abbrev pub output : Tree ℕ
output = node 3 0 (tree (leaf 0) (tree (leaf 1) no_trees))

-- some way works, and there is no middle tree
abbrev pub ConditionIsNeeded : Type 0
ConditionIsNeeded = ((y : Way ℕ) × Contains (ways second over asked_of) y × Works first second 0 inputs output y) × ¬ (Middle first second 0 inputs over asked_of output)
