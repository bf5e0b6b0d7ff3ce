-- How the rules of "not s" are made in the code.
use Rattle.std.specs.Prelude.{ℕ, ◌≡◌, ◌<◌, Bool, true, false, not, List, [], ◌∷◌, ◌++◌, map, filter, get_or, length, All, Contains}
use Rattle.std.specs.List.{list_any}
use Rattle.model_tree.specs.Label.{Label}
use Rattle.model_tree.specs.Formula.{Formula, yes, no, atom, negation, all_of, some_of, no_formulas, formula}
use Rattle.model_sta.specs.Sets.{Row, has, rows_meet}
use Rattle.sta_core.specs.Machine.{PlainRule}
use Rattle.sta_core.specs.Sta.{rule_meaning}
use Rattle.sta_classes.specs.Guards.{firing_guards}
use Rattle.sta_classes.specs.RowFormula.{some_fires}
use Rattle.sta_theory.specs.Opposite.{signed, AreOpposites}
use Rattle.sta_theory.specs.Made.{AreBegun}
use Rattle.sta_ops.specs.declared.begun.Begun.{Begun}

-- the first children of a node by their classes, and the states that each of them is to have
pub record PlainBegun : Type 0 where
  pub children : List ℕ
  pub demands : List (List ℕ)

abbrev pub plain_begun : Begun → PlainBegun
plain_begun b = record { children = b.children.items; demands = map (λ d. d.items) b.demands.items }

abbrev pub demands_in : PlainBegun → List (List ℕ)
demands_in x = x.demands

-- the number of the state's opposite
abbrev pub opposite_in : List ℕ → ℕ → ℕ
opposite_in opposites s = get_or opposites s 0

module _ {A : Type 0} where
  -- whether the formula holds of no label, whatever its atoms mean, as it is written
  abbrev pub is_no : Formula A → Bool
  is_no yes = false
  is_no no = true
  is_no (atom a) = false
  is_no (negation f) = false
  is_no (all_of fs) = false
  is_no (some_of no_formulas) = true
  is_no (some_of (formula f fs)) = false

  -- or of all
  abbrev pub is_yes : Formula A → Bool
  is_yes yes = true
  is_yes no = false
  is_yes (atom a) = false
  is_yes (negation f) = is_no f
  is_yes (all_of fs) = false
  is_yes (some_of fs) = false

  -- the rule may apply to nodes whose first children have these sets, and demands the state of the next child
  abbrev pub Asks : ℕ → PlainRule A → List Row → ℕ → Type 0
  Asks c r qs s = (r.constructor ≡ c) × (rows_meet qs r.demands ≡ true) × Contains (get_or r.demands (length qs) []) s

  -- one of the rules does
  abbrev pub AnyAsks : ℕ → List (PlainRule A) → List Row → ℕ → Type 0
  AnyAsks c rs qs s = (r : PlainRule A) × Contains rs r × Asks c r qs s

-- over the sets of the classes
module _ (rows : List Row) where
  abbrev pub row_at : ℕ → Row
  row_at k = get_or rows k []

  abbrev pub rows_in : PlainBegun → List Row
  rows_in x = map row_at x.children

  -- classes with all combinations of these states that classes have
  pub record ArePicked (states picked : List ℕ) : Type 0 where
    pub low : (k : ℕ) → Contains picked k → k < length rows
    pub all : (u : ℕ) → u < length rows → (k : ℕ) × Contains picked k × ((s : ℕ) → Contains states s → has (row_at k) s ≡ has (row_at u) s)

  -- of each state itself or its opposite, as the class has it
  abbrev pub answers : List ℕ → List ℕ → ℕ → List ℕ
  answers opposites states k = map (λ s. signed (opposite_in opposites) (has (row_at k) s) s) states

  -- the same with a child more, of the class
  abbrev pub with_child : List ℕ → List ℕ → PlainBegun → ℕ → PlainBegun
  with_child opposites states x k = record { children = x.children ++ k ∷ []; demands = x.demands ++ answers opposites states k ∷ [] }

  -- these are added for picked classes
  abbrev pub AddsNext : List ℕ → List ℕ → PlainBegun → List PlainBegun → List PlainBegun → Type 0
  AddsNext opposites states x old new = (picked : List ℕ) × ArePicked states picked × (new ≡ old ++ map (with_child opposites states x) picked)

  -- of classes that there are
  abbrev pub AreOfClasses : List PlainBegun → Type 0
  AreOfClasses xs = (x : PlainBegun) → Contains xs x → All (λ k. k < length rows) x.children

  module _ {A : Type 0} (rs : List (PlainRule A)) (c : ℕ) where
    -- nodes with n children are begun, whatever the atoms mean
    abbrev pub AreAllBegun : List ℕ → ℕ → List PlainBegun → Type 0
    AreAllBegun opposites n xs = (holds : A → Label → Bool) → AreBegun (opposite_in opposites) (map (rule_meaning holds) rs) rows_in demands_in c rows n xs

    -- the rule for a node
    abbrev pub not_rule : PlainBegun → PlainRule A
    not_rule x = record { constructor = c; guard = negation (some_fires c (rows_in x) rs); demands = x.demands }

    -- no rule with a guard that always holds applies
    abbrev pub may_hold : PlainBegun → Bool
    may_hold x = not (list_any is_yes (firing_guards c (rows_in x) rs))

    abbrev pub rules_for : List PlainBegun → List (PlainRule A)
    rules_for xs = map not_rule (filter may_hold xs)

-- Rules of "not s", where s has the rules rs: the constructor has as many children, and the guard says that none of those
-- of rs holds that apply over some sets.
pub record IsNotRule {A : Type 0} (ranks : List ℕ) (rs : List (PlainRule A)) (r : PlainRule A) : Type 0 where
  pub low : r.constructor < length ranks
  pub wide : length r.demands ≡ get_or ranks r.constructor 0
  pub sets : List Row
  pub guard_is : r.guard ≡ negation (some_fires r.constructor sets rs)

pub record AreNotRules {A : Type 0} (opposites ranks : List ℕ) (rows : List Row) (rs those : List (PlainRule A)) : Type 0 where
  pub are_opposites : (holds : A → Label → Bool) → AreOpposites (opposite_in opposites) (map (rule_meaning holds) rs) ranks rows (map (rule_meaning holds) those)
  pub each : (r : PlainRule A) → Contains those r → IsNotRule ranks rs r
