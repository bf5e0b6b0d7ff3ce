-- The formula of the labels over which children with given sets have a given set.
use Rattle.std.specs.Prelude.{ℕ, Bool, List, [], ◌∷◌, cond}
use Rattle.model_tree.specs.Formula.{Formula, negation, all_of, some_of, formulas_of}
use Rattle.model_sta.specs.Sets.{Row}
use Rattle.sta_core.specs.Machine.{PlainRule}
use Rattle.sta_classes.specs.Guards.{firing_guards}

-- the formula, or its denial
abbrev pub signed : {A : Type 0} → Bool → Formula A → Formula A
signed sign f = cond sign f (negation f)

module _ {A : Type 0} (c : ℕ) (qs : List Row) where
  -- some rule of the state fires
  abbrev pub some_fires : List (PlainRule A) → Formula A
  some_fires rs = some_of (formulas_of (firing_guards c qs rs))

  -- of each state, that a rule fires, or that none does
  abbrev pub state_formulas : List (List (PlainRule A)) → Row → List (Formula A)
  state_formulas [] row = []
  state_formulas (rs ∷ rules) [] = []
  state_formulas (rs ∷ rules) (b ∷ row) = signed b (some_fires rs) ∷ state_formulas rules row

  abbrev pub row_formula : List (List (PlainRule A)) → Row → Formula A
  row_formula rules row = all_of (formulas_of (state_formulas rules row))
