-- Rules that are picked for demanded states, with their guards put.
use Rattle.std.specs.Prelude.{◌≡◌, ◌⊎◌, ◌&&◌, ℕ, Bool, false, List, [], ◌∷◌, ◌++◌, map, get_or, Contains, Option, Some}
use Rattle.std.specs.List.{flat_map}
use Rattle.std.specs.Option.{option_map}
use Rattle.model_tree.specs.Label.{Label}
use Rattle.model_tree.specs.Formula.{Formula, formula_holds}
use Rattle.model_sta.specs.Automaton.{Rule}
use Rattle.label_core.specs.Formula.{plain_formula}
use Rattle.model_sttr.specs.Plain.{PlainOut}
use Rattle.model_sttr.specs.Terms.{Term}
use Rattle.model_sttr.specs.Transducer.{Head}
use Rattle.sta_core.specs.Machine.{PlainRule}
use Rattle.sttr_core.specs.Terms.{plain_term}
use Rattle.sttr_theory.specs.Lists.{SameStates}
use Rattle.sttr_theory.specs.Ways.{picks_of}
use Rattle.sttr_theory.specs.Ways as theory
use Rattle.sttr_run.specs.Drafts.{all_say}
use Rattle.sttr_run.specs.Sets.{Adds, ArePairs}
use Rattle.sttr_run.specs.declared.picks.Fired.{Fired}
use Rattle.sttr_run.specs.declared.picks.Pick.{Pick}

-- what lists of demands want of a child
abbrev pub wanted_in : List (List (List ℕ)) → ℕ → List ℕ
wanted_in demands j = flat_map (λ d. get_or d j []) demands

module _ {A M : Type 0} where
  abbrev pub fired_demands : Fired A M → List (List ℕ)
  fired_demands f = map (λ s. s.items) f.demands.now

  abbrev pub fired_term : Fired A M → Option (Term Head M)
  fired_term f = option_map (λ t. plain_term t.now) f.term

  abbrev pub pick_guards : Pick A M → List (Formula A)
  pick_guards x = map plain_formula x.guards.items

  abbrev pub pick_demands : Pick A M → List (List (List ℕ))
  pick_demands x = map (λ d. map (λ s. s.items) d.now) x.demands.items

  abbrev pub pick_term : Pick A M → Option (Term Head M)
  pick_term x = option_map (λ t. plain_term t.now) x.term

  abbrev pub wants_of : Pick A M → ℕ → List ℕ
  wants_of x = wanted_in (pick_demands x)

  -- one more rule is picked
  pub record IsWith (x : Pick A M) (f : Fired A M) (more : Pick A M) : Type 0 where
    pub guards : pick_guards more ≡ pick_guards x ++ plain_formula f.guard ∷ []
    pub demands : pick_demands more ≡ pick_demands x ++ fired_demands f ∷ []
    pub same_term : pick_term more ≡ fired_term f

  -- to the old picks came each of these with the rule
  abbrev pub AddsPicks : List (Pick A M) → Fired A M → List (Pick A M) → List (Pick A M) → Type 0
  AddsPicks xs f = Adds (λ x y. IsWith x f y) xs

  -- each of the picks with each of the rules
  abbrev pub AreWithEach : List (Pick A M) → List (Fired A M) → List (Pick A M) → Type 0
  AreWithEach xs fs = ArePairs (λ f x y. IsWith x f y) fs xs

module _ {A M : Type 0} (holds : A → Label → Bool) (make : M → Label → Label) (D : Label → Type 0) where
  -- the picks that hold of some label are kept, and no others come
  pub record AreHolding (xs kept : List (Pick A M)) : Type 0 where
    pub each : (x : Pick A M) → Contains kept x → Contains xs x
    pub all : (x : Pick A M) → Contains xs x → ((l : Label) → D l → all_say holds (pick_guards x) l ≡ false) ⊎ Contains kept x

  module _ (c : ℕ) (m : M) where
    -- the rule may apply under the constructor, and its guard is put
    pub record IsFired (r : PlainRule A) (f : Fired A M) : Type 0 where
      pub same_constructor : r.constructor ≡ c
      pub same_guard : (l : Label) → D l → formula_holds (λ a. holds a l) (plain_formula f.guard) ≡ formula_holds (λ a. holds a (make m l)) r.guard
      pub same_demands : fired_demands f ≡ r.demands

    -- those of the rules that may apply
    pub record AreFired {R : Type 0} (rule : R → PlainRule A) (term : R → Option (Term Head M)) (rs : List R) (fs : List (Fired A M)) : Type 0 where
      pub each : (f : Fired A M) → Contains fs f → (r : R) × Contains rs r × IsFired (rule r) f × (fired_term f ≡ term r)
      pub all : (r : R) → Contains rs r → (rule r).constructor ≡ c → (f : Fired A M) × Contains fs f × IsFired (rule r) f × (fired_term f ≡ term r)

    abbrev pub NeverPicked : theory.Pick Label → Type 0
    NeverPicked p = (l : Label) → D l → p.guard (make m l) ≡ false

    -- the pick says the same
    pub record PicksSame (x : Pick A M) (p : theory.Pick Label) : Type 0 where
      pub guard : (l : Label) → D l → all_say holds (pick_guards x) l ≡ p.guard (make m l)
      pub wants : (j : ℕ) → SameStates (wants_of x j) (p.wants j)

    -- the picks of rules for the states, but for some that never hold
    pub record ArePicks (looks : List (List (Rule Label))) (all : List ℕ) (xs : List (Pick A M)) : Type 0 where
      pub each : (x : Pick A M) → Contains xs x → (p : theory.Pick Label) × Contains (picks_of looks c all) p × PicksSame x p
      pub every : (p : theory.Pick Label) → Contains (picks_of looks c all) p → NeverPicked p ⊎ ((x : Pick A M) × Contains xs x × PicksSame x p)

    -- the pick is one more rule of a state
    pub record IsApplied (x : Pick A M) (r : PlainOut (PlainRule A) M) (y : Pick A M) : Type 0 where
      pub same_constructor : r.rule.constructor ≡ c
      pub guard : (l : Label) → D l → all_say holds (pick_guards y) l ≡ (all_say holds (pick_guards x) l && formula_holds (λ a. holds a (make m l)) r.rule.guard)
      pub wants : (j : ℕ) → SameStates (wants_of y j) (wants_of x j ++ get_or r.rule.demands j [])
      pub same_term : pick_term y ≡ Some r.term

    -- each of the picks with each of the rules, but for some that never hold
    pub record AreApplied (rs : List (PlainOut (PlainRule A) M)) (xs ys : List (Pick A M)) : Type 0 where
      pub each : (y : Pick A M) → Contains ys y → (x : Pick A M) × Contains xs x × (r : PlainOut (PlainRule A) M) × Contains rs r × IsApplied x r y
      pub all : (x : Pick A M) → Contains xs x → (r : PlainOut (PlainRule A) M) → Contains rs r → r.rule.constructor ≡ c
          → ((l : Label) → D l → (all_say holds (pick_guards x) l && formula_holds (λ a. holds a (make m l)) r.rule.guard) ≡ false) ⊎ ((y : Pick A M) × Contains ys y × IsApplied x r y)
