-- Rules that are made of others: the same constructor, and states by the numbers of their names.
use Rattle.std.specs.Prelude.{Bool, ◌≡◌, ◌<◌, ℕ, List, [], ◌∷◌, ◌++◌, map, length, get_or, Contains, Vec}
use Rattle.model_tree.specs.Formula.{Formula, all_of, formulas_of}
use Rattle.sta_core.specs.Machine.{PlainRule}
use Rattle.sttr_theory.specs.Lists.{IsAt, Match}
use Rattle.sttr_theory.specs.Covers.{Covers}
use Rattle.sttr_preimage.specs.Apart.{AreApart}
use Rattle.model_tree.specs.Label.{Label}
use Rattle.sttr_theory.specs.Triples.{LookName, firsts, asked}
use Rattle.sttr_run.specs.Plain.{plain_triple}
use Rattle.sttr_run.specs.declared.triples.Triple as code
use Rattle.sttr_run.specs.declared.triples.Way.{Way}
use Rattle.label_core.specs.Formula.{plain_formula}
use Rattle.sttr_preimage.specs.declared.names.Side.{Side}
use Rattle.sttr_preimage.specs.Names.{side_names, tidy, Adds}

-- for each of so many children the numbers of all the wanted names
pub record AreNumbered (old new : List LookName) (n : ℕ) (wanted : ℕ → List LookName) (made : List (List ℕ)) : Type 0 where
  pub adds : Adds old new (λ x. (j : ℕ) × (j < n) × Contains (wanted j) x)
  pub count : length made ≡ n
  pub each : (j : ℕ) → j < n → Match (IsAt new) (get_or made j []) (wanted j)

module _ {A : Type 0} where
  -- the rule has this guard and demands states of the wanted names
  pub record IsMadeOf (old new : List LookName) (r : PlainRule A) (guard : Formula A) (wanted : ℕ → List LookName) (made : PlainRule A) : Type 0 where
    pub constructor : made.constructor ≡ r.constructor
    pub guarded : made.guard ≡ guard
    pub demands : AreNumbered old new (length r.demands) wanted made.demands

  -- the states that are demanded of a child, by their names
  abbrev pub demands_of : Side → PlainRule A → ℕ → List LookName
  demands_of side r j = side_names side (get_or r.demands j [])

  -- the rule with its states by their names
  pub record IsCopied (names : List LookName) (side : Side) (made r : PlainRule A) : Type 0 where
    pub constructor : made.constructor ≡ r.constructor
    pub guard : made.guard ≡ r.guard
    pub count : length made.demands ≡ length r.demands
    pub each : (j : ℕ) → Match (IsAt names) (get_or made.demands j []) (demands_of side r j)

  pub record AreCopied (old new : List LookName) (side : Side) (rules made : List (PlainRule A)) : Type 0 where
    pub adds : Adds old new (λ x. (r : PlainRule A) × Contains rules r × (j : ℕ) × Contains (demands_of side r j) x)
    pub copied : Match (IsCopied new side) made rules

-- what a way asks of a child
abbrev pub asks_in : {G : Type 0} → List (Vec code.Triple G) → ℕ → List LookName
asks_in demands j = asked (map tidy (get_or (map (λ d. map plain_triple d.items) demands) j []))

-- what a rule and a way ask of it
abbrev pub way_demands : {A G : Type 0} → PlainRule A → List (Vec code.Triple G) → ℕ → List LookName
way_demands r demands j = firsts (get_or r.demands j []) ++ asks_in demands j

-- both hold
abbrev pub both_of : {A : Type 0} → Formula A → Formula A → Formula A
both_of f g = all_of (formulas_of (f ∷ g ∷ []))

module _ {A M : Type 0} where
  -- the rule that applies where the rule and the way do
  pub record IsWayMade (names : List LookName) (r : PlainRule A) (made : PlainRule A) (y : Way A M) : Type 0 where
    pub constructor : made.constructor ≡ r.constructor
    pub guard : made.guard ≡ both_of r.guard (plain_formula y.guard)
    pub count : length made.demands ≡ length r.demands
    pub each : (j : ℕ) → j < length r.demands → Match (IsAt names) (get_or made.demands j []) (way_demands r y.demands.items j)

  -- one for each of the ways, but for those whose guards no label of D has together with the rule's
  pub record AreWayMade (holds : A → Label → Bool) (D : Label → Type 0) (old new : List LookName) (r : PlainRule A) (ys : List (Way A M)) (made : List (PlainRule A)) : Type 0 where
    pub adds : Adds old new (λ x. (y : Way A M) × Contains ys y × (j : ℕ) × (j < length r.demands) × Contains (way_demands r y.demands.items j) x)
    pub rules : Covers (IsWayMade new r) (λ y. AreApart holds D r.guard (plain_formula y.guard)) made ys
