-- Automata and transducers that are built state by state from ways, each state by its name.
use Rattle.std.specs.Prelude.{◌≡◌, ◌⊎◌, ◌<◌, ◌≤◌, ◌&&◌, ℕ, zero, suc, Bool, true, List, [], ◌++◌, get_or, length, Option, Some, None, Contains}
use Rattle.model_sta.specs.Automaton.{Rule, rules_of}
use Rattle.model_sta.specs.Operations.{AreStates}
use Rattle.model_sttr.specs.Terms.{Term, build, Parts, no_parts, part, on, StandsFor}
use Rattle.model_sttr.specs.Transducer.{Head, identity, run, OutRule, Sttr, out_rules, IsHead}
use Rattle.sttr_theory.specs.Lists.{IsAt, Match}
use Rattle.sttr_theory.specs.Covers.{Covers, Never}
use Rattle.sttr_theory.specs.Triples.{Triple, Way, AsksApart, LookName, of_first, of_second, middle, firsts, seconds, asked, AreWays}

-- the children from this one on, as they are, so many
abbrev pub kept : {M : Type 0} → ℕ → ℕ → Parts Head M
kept i zero = no_parts
kept i (suc n) = part (on identity i) (kept (suc i) n)

-- a rule of the identity
abbrev pub copying : {L : Type 0} → ℕ → ℕ → OutRule L
copying c n = record { rule = record { constructor = c; guard = λ l. true; demands = [] }; term = build c (λ l. l) (kept 0 n) }

module _ {L : Type 0} (ranks : List ℕ) (D : L → Type 0) (f g : Sttr L) where
  -- a rule of the head
  abbrev pub IsRuleOf : Head → OutRule L → Type 0
  IsRuleOf identity ρ = (c : ℕ) × (c < length ranks) × (ρ ≡ copying c (get_or ranks c 0))
  IsRuleOf (run q) ρ = Contains (out_rules f q) ρ

  -- the rule has this constructor and guard, and of each child it demands the states of these names
  pub record IsMadeRule (names : List LookName) (r : Rule L) (c : ℕ) (guard : L → Bool) (wanted : ℕ → List LookName) : Type 0 where
    pub same_constructor : r.constructor ≡ c
    pub same_guard : (l : L) → D l → r.guard l ≡ guard l
    pub same_demands : (j : ℕ) → Match (IsAt names) (get_or r.demands j []) (wanted j)

  abbrev pub IsCopy : List LookName → (List ℕ → List LookName) → Rule L → Rule L → Type 0
  IsCopy names these r ρ = IsMadeRule names r ρ.constructor ρ.guard (λ j. these (get_or ρ.demands j []))

  -- the rule of a rule of the first and a way over its term
  abbrev pub IsWayRule : List LookName → Rule L → OutRule L → Way L → Type 0
  IsWayRule names r ρ y = IsMadeRule names r ρ.rule.constructor (λ l. ρ.rule.guard l && y.guard l) (λ j. firsts (get_or ρ.rule.demands j []) ++ asked (get_or y.demands j []))

  -- the head is the state of this name; the identity stands for two identities
  abbrev pub IsNamed : List Triple → Head → Triple → Type 0
  IsNamed names identity x = record { first = identity; all = []; second = Some identity } ≡ x
  IsNamed names (run q) x = IsAt names q x

  abbrev pub IsWayTerm : List Triple → Term Head (L → L) → Option (Term Triple (L → L)) → Type 0
  IsWayTerm names p None = ⊥
  IsWayTerm names p (Some z) = StandsFor (IsNamed names) D p z

  abbrev pub IsOutRule : List LookName → List Triple → OutRule L → OutRule L → Way L → Type 0
  IsOutRule looks names r ρ y = IsWayRule looks r.rule ρ y × IsWayTerm names r.term y.term

  -- one rule for each rule of the triple's head and each way of the triple over its term, but for those whose guards hold
  -- of no label together
  pub record AreRulesFor {R : Type 0} (IsRule : R → OutRule L → Way L → Type 0) (rs : List R) (x : Triple) : Type 0 where
    pub only : (r : R) → Contains rs r → (ρ : OutRule L) × IsRuleOf x.first ρ × (ys : List (Way L)) × AreWays f g D ρ.term x ys × (y : Way L) × Contains ys y × IsRule r ρ y
    pub all : (ρ : OutRule L) → IsRuleOf x.first ρ → (ys : List (Way L)) × AreWays f g D ρ.term x ys × ((y : Way L) → Contains ys y → ((r : R) × Contains rs r × IsRule r ρ y) ⊎ Never D (λ l. ρ.rule.guard l && y.guard l))

  -- so far: the same for these rules of the first
  pub record AreRulesOver {R : Type 0} (IsRule : R → OutRule L → Way L → Type 0) (ρs : List (OutRule L)) (rs : List R) (x : Triple) : Type 0 where
    pub only : (r : R) → Contains rs r → (ρ : OutRule L) × Contains ρs ρ × (ys : List (Way L)) × AreWays f g D ρ.term x ys × (y : Way L) × Contains ys y × IsRule r ρ y
    pub all : (ρ : OutRule L) → Contains ρs ρ → (ys : List (Way L)) × AreWays f g D ρ.term x ys × ((y : Way L) → Contains ys y → ((r : R) × Contains rs r × IsRule r ρ y) ⊎ Never D (λ l. ρ.rule.guard l && y.guard l))

  -- so far: one rule for each way, but for those whose guard never holds together with that of the rule of the first
  abbrev pub AreRulesOfWays : {R : Type 0} → (R → OutRule L → Way L → Type 0) → List R → OutRule L → List (Way L) → Type 0
  AreRulesOfWays IsRule rs ρ ys = Covers (λ r y. IsRule r ρ y) (λ y. Never D (λ l. ρ.rule.guard l && y.guard l)) rs ys

  abbrev pub AreLookRules : List LookName → List (Rule L) → LookName → Type 0
  AreLookRules names rs (of_first s) = Match (IsCopy names firsts) rs (rules_of f.looks s)
  AreLookRules names rs (of_second s) = Match (IsCopy names seconds) rs (rules_of g.looks s)
  AreLookRules names rs (middle q all) = AreRulesFor (IsWayRule names) rs (record { first = run q; all = all; second = None })

  abbrev pub AreOutRules : List LookName → List Triple → List (OutRule L) → Triple → Type 0
  AreOutRules looks names rs x = AreRulesFor (IsOutRule looks names) rs x

  -- an automaton whose states have the rules of their names
  pub record IsBuiltLook (names : List LookName) (looks : List (List (Rule L))) : Type 0 where
    pub each : (i : ℕ) (x : LookName) → IsAt names i x → AreLookRules names (rules_of looks i) x
    pub as_many : length looks ≡ length names

  -- so far: of the names, the first have their rules
  pub record IsPartLook (names : List LookName) (looks : List (List (Rule L))) : Type 0 where
    pub each : (i : ℕ) (x : LookName) → i < length looks → IsAt names i x → AreLookRules names (rules_of looks i) x
    pub no_more : length looks ≤ length names

  pub record IsPart (looks : List LookName) (names : List Triple) (rules : List (List (OutRule L))) : Type 0 where
    pub each : (i : ℕ) (x : Triple) → i < length rules → IsAt names i x → AreOutRules looks names (get_or rules i []) x
    pub no_more : length rules ≤ length names

  -- a transducer whose states have
  pub record IsBuilt (looks : List LookName) (names : List Triple) (c : Sttr L) : Type 0 where
    pub look : IsBuiltLook looks c.looks
    pub each : (i : ℕ) (x : Triple) → IsAt names i x → AreOutRules looks names (out_rules c i) x
    pub as_many : length c.rules ≡ length names

module _ {L : Type 0} (f g : Sttr L) where
  -- the name speaks of states and heads that there are
  abbrev pub LookNameFits : LookName → Type 0
  LookNameFits (of_first s) = s < length f.looks
  LookNameFits (of_second s) = (s < length g.looks) × IsHead f identity
  LookNameFits (middle q all) = (q < length f.rules) × AreStates g.looks all

  -- so does the triple, which has a second part, asks its demands apart, and isn't of two identities
  pub record TripleFits (Second : Head → Type 0) (x : Triple) : Type 0 where
    pub is_first : IsHead f x.first
    pub are : AreStates g.looks x.all
    pub second : Head
    pub has_second : x.second ≡ Some second
    pub is_second : Second second
    pub no_copy : x.first ≡ identity → ¬ (second ≡ identity)
    pub asks_apart : AsksApart x
