-- Trees that states tell apart, and labels that guards don't tell from kept ones; of one automaton or of two together.
use Rattle.std.specs.Prelude.{◌≡◌, ◌⊎◌, ◌<◌, ◌+◌, ℕ, Bool, true, List, [], map, get_or, length, Contains}
use Rattle.std.specs.List.{All}
use Rattle.model_tree.specs.Tree.{Tree}
use Rattle.model_sta.specs.Automaton.{Rule, rules_of, is_accepted}
use Rattle.model_sta.specs.EachTwo.{EachTwo}
use Rattle.model_sta.specs.Operations.{AgreeIn}

module _ {L : Type 0} where
  -- a state accepts exactly one of two trees
  abbrev pub AreTold : List (List (Rule L)) → Tree L → Tree L → Type 0
  AreTold rules s t = (q : ℕ) × (q < length rules) × ¬ (is_accepted rules s q ≡ is_accepted rules t q)

  -- a state of the first or of the second automaton does
  abbrev pub AreToldByEither : List (List (Rule L)) → List (List (Rule L)) → Tree L → Tree L → Type 0
  AreToldByEither first second s t = AreTold first s t ⊎ AreTold second s t

  -- labels agree on the guards of both
  abbrev pub AgreeInBoth : List (List (Rule L)) → List (List (Rule L)) → L → L → Type 0
  AgreeInBoth first second l m = AgreeIn first l m × AgreeIn second l m

  -- more than so many trees of the type, each two of them apart
  pub record HasMoreApart (Typed : Tree L → Type 0) (Apart : Tree L → Tree L → Type 0) (most : ℕ) : Type 0 where
    pub trees : List (Tree L)
    pub typed : All Typed trees
    pub apart : EachTwo Apart trees
    pub more : most < length trees

  -- a label of D that agrees with no kept one
  abbrev pub HasFar : (L → Type 0) → (L → Bool) → (L → L → Type 0) → Type 0
  HasFar D keeps Agree = (l : L) × D l × ((m : L) → D m → keeps m ≡ true → ¬ (Agree l m))

  -- ---- the rules of two automata in one list

  -- the rule where the states have numbers that are n greater
  abbrev pub moved : ℕ → Rule L → Rule L
  moved n r = record { constructor = r.constructor; guard = r.guard; demands = map (map (λ s. n + s)) r.demands }

  -- the states of the first automaton and then those of the second
  pub record IsBeside (first second rules : List (List (Rule L))) : Type 0 where
    pub firsts : (s : ℕ) → s < length first → rules_of rules s ≡ rules_of first s
    pub seconds : (s : ℕ) → s < length second → rules_of rules (length first + s) ≡ map (moved (length first)) (rules_of second s)
    pub many : length rules ≡ length first + length second

  -- each rule demands states of the automaton alone
  abbrev pub AreOwn : List (List (Rule L)) → Type 0
  AreOwn rules = (q : ℕ) (r : Rule L) → Contains (rules_of rules q) r → (j s : ℕ) → Contains (get_or r.demands j []) s → s < length rules
