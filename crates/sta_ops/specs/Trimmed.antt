-- Parts of automata: the states that one state reaches, under numbers in the order in which they are met.
use Rattle.std.specs.Prelude.{ℕ, nat_eq, ◌≡◌, ◌<◌, List, [], ◌∷◌, ◌++◌, map, get_or, length, Contains}
use Rattle.std.specs.List.{IsDistinct}
use Rattle.sta_core.specs.Machine.{PlainRule}
use Rattle.sta_core.specs.declared.Lang.{Lang}
use Rattle.sta_ops.specs.Rules.{rules_at}

-- more states are met, each of them a wanted one
pub record Meets (old new : List ℕ) (Wanted : ℕ → Type 0) : Type 0 where
  pub more : List ℕ
  pub behind : new ≡ old ++ more
  pub wanted : (s : ℕ) → Contains more s → Wanted s

-- the state with this number
abbrev pub state_named : List ℕ → ℕ → ℕ
state_named met k = get_or met k 0

-- of these, with numbers in the place of states: of each the numbers that it has are below the number of met states
pub record AreNamed {X : Type 0} (name : List ℕ → X → X) (Has : X → ℕ → Type 0) (met : List ℕ) (xs names : List X) : Type 0 where
  pub named : map (name met) names ≡ xs
  pub low : (x : X) → Contains names x → (k : ℕ) → Has x k → k < length met

abbrev pub AreNames : List ℕ → List ℕ → List ℕ → Type 0
AreNames = AreNamed state_named (λ s k. s ≡ k)

abbrev pub states_named : List ℕ → List ℕ → List ℕ
states_named met d = map (state_named met) d

abbrev pub AreNamesOfAll : List ℕ → List (List ℕ) → List (List ℕ) → Type 0
AreNamesOfAll = AreNamed states_named (λ d k. Contains d k)

-- one of them is the state
abbrev pub DemandedBy : List (List ℕ) → ℕ → Type 0
DemandedBy ds s = (d : List ℕ) × Contains ds d × Contains d s

module _ {A : Type 0} where
  -- a rule demands the state
  abbrev pub DemandedByAny : List (PlainRule A) → ℕ → Type 0
  DemandedByAny rs s = (r : PlainRule A) × Contains rs r × DemandedBy r.demands s

  abbrev pub renamed : List ℕ → PlainRule A → PlainRule A
  renamed met r = record { constructor = r.constructor; guard = r.guard; demands = map (states_named met) r.demands }

  -- the rule demands states by their numbers
  pub record IsNamedRule (met : List ℕ) (r named : PlainRule A) : Type 0 where
    pub is : renamed met named ≡ r
    pub low : (k : ℕ) → DemandedBy named.demands k → k < length met

  abbrev pub AreNamedRules : List ℕ → List (PlainRule A) → List (PlainRule A) → Type 0
  AreNamedRules = AreNamed renamed (λ r k. DemandedBy r.demands k)

  -- the state is one of the first met ones, or a rule of one that is reached demands it
  pub data IsReachedFromAny (rules : List (List (PlainRule A))) (starts : List ℕ) : ℕ → Type 0 where
    among : (s : ℕ) → Contains starts s → IsReachedFromAny rules starts s
    demanded : (s t : ℕ) → IsReachedFromAny rules starts s → DemandedByAny (rules_at rules s) t → IsReachedFromAny rules starts t

  -- exactly the states that the first met ones reach are met, each once, and these are their rules
  pub record AreAllNamed (whole : List (List (PlainRule A))) (first met : List ℕ) (rules : List (List (PlainRule A))) : Type 0 where
    pub more : List ℕ
    pub behind : met ≡ first ++ more
    pub many : length rules ≡ length met
    pub once : IsDistinct nat_eq met
    pub old : (s : ℕ) → Contains met s → s < length whole
    pub reached : (s : ℕ) → Contains met s → IsReachedFromAny whole first s
    pub rules_are : (q : ℕ) → q < length met → AreNamedRules met (rules_at whole (state_named met q)) (rules_at rules q)

  -- c has the states that the state of a reaches, each once, with their rules
  pub record IsTrimmed (a c : Lang A) : Type 0 where
    pub met : List ℕ
    pub all : AreAllNamed a.sta.rules (a.state ∷ []) met c.sta.rules
    pub ranks_are : c.sta.ranks ≡ a.sta.ranks
    pub state_is : c.state ≡ 0

-- no state is out of reach of the language's
abbrev pub ReachesAll : {A : Type 0} → Lang A → Type 0
ReachesAll c = (s : ℕ) → s < length c.sta.rules → IsReachedFromAny c.sta.rules (c.state ∷ []) s
