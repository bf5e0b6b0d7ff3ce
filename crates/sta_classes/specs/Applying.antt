-- The rules of one constructor, numbered, and sets of their numbers.
use Rattle.std.specs.Prelude.{ℕ, ◌≡◌, ◌<◌, ◌↔◌, ◌^◌, Bool, true, false, not, ◌&&◌, List, [], ◌∷◌, map, get_or, length, All, Contains, Vec}
use Rattle.std.specs.List.{list_all}
use Rattle.model_tree.specs.Label.{Label}
use Rattle.model_tree.specs.Formula.{EveryAtom, Formula, yes, no, atom, negation, all_of, some_of, Formulas, no_formulas, formula, formula_holds}
use Rattle.model_sta.specs.Sets.{Row, has}
use Rattle.label_core.specs.SameFormula.{same_formula}
use Rattle.sta_core.specs.Machine.{PlainRule, plain_rule}
use Rattle.sta_core.specs.declared.StaRule.{StaRule}
use Rattle.sta_classes.specs.declared.rules.Owned.{Owned}
use Rattle.sta_classes.specs.declared.rules.Rules.{Rules}

-- the elements with these numbers
abbrev pub chosen : {X : Type 0} → List Bool → List X → List X
chosen [] xs = []
chosen (b ∷ bs) [] = []
chosen (true ∷ bs) (x ∷ xs) = x ∷ chosen bs xs
chosen (false ∷ bs) (x ∷ xs) = chosen bs xs

module _ {A : Type 0} where
  abbrev mutual
    -- no atom stands in the formula, so it holds of all labels or of none
    pub is_fixed : Formula A → Bool
    is_fixed yes = true
    is_fixed no = true
    is_fixed (atom a) = false
    is_fixed (negation f) = is_fixed f
    is_fixed (all_of fs) = are_fixed fs
    is_fixed (some_of fs) = are_fixed fs

    pub are_fixed : Formulas A → Bool
    are_fixed no_formulas = true
    are_fixed (formula f fs) = is_fixed f && are_fixed fs

  -- a rule and its state
  abbrev pub plain_owned : Owned A → ℕ × PlainRule A
  plain_owned x = (x.state, plain_rule x.rule.now)

  abbrev pub guards_in : List (Owned A) → List (Formula A)
  guards_in list = map (λ x. (plain_rule x.rule.now).guard) list

  -- the row has what the rule demands at the place
  abbrev pub meets_at : ℕ → Row → PlainRule A → Bool
  meets_at j q r = list_all (has q) (get_or r.demands j [])

  -- the guard holds of the label
  abbrev pub truth_at : (A → Label → Bool) → Label → Owned A → Bool
  truth_at holds l x = formula_holds (λ a. holds a l) (plain_rule x.rule.now).guard

  -- the rule has the constructor, and is this one of the state
  abbrev pub IsOwned : ℕ → ℕ → StaRule A → ℕ × PlainRule A → Type 0
  IsOwned c s r p = (r.constructor ≡ c) × ((s, plain_rule r) ≡ p)

  -- exactly the rules of all states that have the constructor, each with its state
  abbrev pub AreOwned : {G : Type 0} → List (Vec (StaRule A) G) → ℕ → List (Owned A) → Type 0
  AreOwned {G} rules c list = (p : ℕ × PlainRule A) → Contains (map plain_owned list) p ↔ ((s : ℕ) × (s < length rules) × (those : Vec (StaRule A) G) × (get_or rules s those ≡ those) × (r : StaRule A) × Contains those.items r × IsOwned c s r p)

  -- the other rule has the same guard
  abbrev pub IsLike : (A → A → Bool) → List (Owned A) → ℕ → ℕ → Type 0
  IsLike eq list i j = (j < length list) × (same_formula eq (get_or (guards_in list) j yes) (get_or (guards_in list) i yes) ≡ true)

  -- for each rule the number of one with the same guard
  pub record AreLike (eq : A → A → Bool) (list : List (Owned A)) (likes : List ℕ) : Type 0 where
    pub many : length likes ≡ length list
    pub each : (i : ℕ) → i < length list → IsLike eq list i (get_or likes i 0)

  -- the states of all of them, their numbers, those of the ones with a guard, and of others with the same guard
  pub record IsRules {G : Type 0} (eq : A → A → Bool) (rules : List (Vec (StaRule A) G)) (c : ℕ) (own : Rules A) : Type 0 where
    pub owned : AreOwned rules c own.list.items
    pub states_are : own.states.items ≡ map (λ x. x.state) own.list.items
    pub all_are : own.all ≡ map (λ x. true) own.list.items
    pub guarded_are : own.guarded ≡ map (λ x. not (is_fixed (plain_rule x.rule.now).guard)) own.list.items
    pub alike : AreLike eq own.list.items own.likes.items

-- the rules of so many constructors, which are not too many to be numbered
pub record AreRules {A G : Type 0} (eq : A → A → Bool) (rules : List (Vec (StaRule A) G)) (n : ℕ) (each : List (Rules A)) : Type 0 where
  pub few : n < 2 ^ 32
  pub many : length each ≡ n
  pub are : (c : ℕ) (own : Rules A) → c < length each → get_or each c own ≡ own → IsRules eq rules c own

-- the guards of the rules fit, it is told which of the rules have guards, and which guards are the same
pub record AreFit {A : Type 0} (eq : A → A → Bool) (fits : A → Type 0) (own : Rules A) : Type 0 where
  pub fit : All (λ x. EveryAtom fits (plain_rule x.rule.now).guard) own.list.items
  pub guarded : length own.guarded ≡ length own.list.items
  pub likes : AreLike eq own.list.items own.likes.items

-- an element with one of the numbers is taken to the number
abbrev pub IsTakenTo : {X : Type 0} → (X → ℕ) → List X → Row → ℕ → Type 0
IsTakenTo {X} to list numbers s = (i : ℕ) × (i < length list) × (has numbers i ≡ true) × (x : X) × (get_or list i x ≡ x) × (to x ≡ s)

-- a rule with one of the numbers is of the state
abbrev pub IsFired : {A : Type 0} → List (Owned A) → Row → ℕ → Type 0
IsFired list = IsTakenTo (λ x. x.state) list

-- numbers below the length of the list
abbrev pub AreLow : List ℕ → Type 0
AreLow likes = All (λ like. like < length likes) likes

-- exactly the numbers that the list has at these places, as a set of the first so many
pub record AreAt (list : List ℕ) (places : ℕ) (numbers : Row) (row : Row) : Type 0 where
  pub many : length row ≡ places
  pub each : (s : ℕ) → has row s ≡ true ↔ IsTakenTo (λ n. n) list numbers s
