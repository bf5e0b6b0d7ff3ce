-- Rules that are made of others, as plain data.
use Rattle.std.specs.Prelude.{ℕ, ◌≡◌, ◌+◌, ◌==◌, List, [], ◌∷◌, ◌++◌, length, map, filter, get_or, All}
use Rattle.std.specs.List.{flat_map}
use Rattle.model_tree.specs.Formula.{all_of, formulas_of}
use Rattle.sta_core.specs.Machine.{PlainRule}
use Rattle.sta_core.specs.declared.StaRule.{StaRule}
use Rattle.sta_core.specs.declared.Lang.{Lang}

-- the states of both, place by place
abbrev pub joined : List (List ℕ) → List (List ℕ) → List (List ℕ)
joined [] es = es
joined (d ∷ ds) [] = d ∷ ds
joined (d ∷ ds) (e ∷ es) = (d ++ e) ∷ joined ds es

module _ {A : Type 0} where
  -- the rule where states have numbers that are n greater
  abbrev pub moved : ℕ → PlainRule A → PlainRule A
  moved n r = record { constructor = r.constructor; guard = r.guard; demands = map (map (λ s. n + s)) r.demands }

  -- the states of the first automaton and then those of the second
  abbrev pub beside : List (List (PlainRule A)) → List (List (PlainRule A)) → List (List (PlainRule A))
  beside first second = first ++ map (map (moved (length first))) second

  -- the rule that applies where both do
  abbrev pub both : PlainRule A → PlainRule A → PlainRule A
  both r s = record { constructor = r.constructor; guard = all_of (formulas_of (r.guard ∷ s.guard ∷ [])); demands = joined r.demands s.demands }

  -- one for each two of one constructor
  abbrev pub pairs_with : PlainRule A → List (PlainRule A) → List (PlainRule A)
  pairs_with r ss = map (both r) (filter (λ s. s.constructor == r.constructor) ss)

  abbrev pub pairs : List (PlainRule A) → List (PlainRule A) → List (PlainRule A)
  pairs rs ss = flat_map (λ r. pairs_with r ss) rs

  -- the rules of a state
  abbrev pub rules_at : List (List (PlainRule A)) → ℕ → List (PlainRule A)
  rules_at rules s = get_or rules s []

  -- both automata, and a state behind them that applies where either state does, or both do
  abbrev pub with_either : Lang A → Lang A → List (List (PlainRule A))
  with_either a b = beside a.sta.rules b.sta.rules ++ (rules_at a.sta.rules a.state ++ map (moved (length a.sta.rules)) (rules_at b.sta.rules b.state)) ∷ []

  abbrev pub with_pairs : Lang A → Lang A → List (List (PlainRule A))
  with_pairs a b = beside a.sta.rules b.sta.rules ++ pairs (rules_at a.sta.rules a.state) (map (moved (length a.sta.rules)) (rules_at b.sta.rules b.state)) ∷ []

  -- those with the same constructor demand states of as many children
  abbrev pub AreAsWide : StaRule A → List (StaRule A) → Type 0
  AreAsWide r ss = All (λ s. s.constructor ≡ r.constructor → length s.demands.items ≡ length r.demands.items) ss
