-- A transducer that is built from lists of ways, by lists of names that are closed.
use Rattle.std.specs.Prelude.{◌≡◌, ◌&&◌, ℕ, suc, Bool, List, [], ◌∷◌, ◌++◌, map, get_or, Option, Some, None, Contains}
use Rattle.std.specs.List.{flat_map}
use Rattle.model_sta.specs.Automaton.{Rule, rules_of}
use Rattle.model_sta.specs.Sets.{Each}
use Rattle.model_sta.specs.Operations.{AreStates}
use Rattle.model_sttr.specs.Terms.{Term, on, build, Parts, no_parts, part, Occurs}
use Rattle.model_sttr.specs.Transducer.{Head, identity, run, OutRule, Sttr, out_rules, SttrFits}
use Rattle.sttr_theory.specs.Lists.{IsAt, merge}
use Rattle.sttr_theory.specs.Triples.{Triple, Way, LookName, of_first, of_second, middle, firsts, seconds, asked}
use Rattle.sttr_theory.specs.Built.{copying, IsNamed, IsBuilt, LookNameFits}
use Rattle.sttr_theory.specs.Ways.{ways}
use Rattle.sttr_theory.specs.Results.{Told, AreNames}

-- the rules of the identity, from this constructor on
abbrev pub copies : (L : Type 0) → ℕ → List ℕ → List (OutRule L)
copies L c [] = []
copies L c (n ∷ ns) = copying c n ∷ copies L (suc c) ns

module _ {L : Type 0} (ranks : List ℕ) (f g : Sttr L) (number : Triple → ℕ) (look_number : LookName → ℕ) where
  abbrev pub head_rules : Head → List (OutRule L)
  head_rules identity = copies L 0 ranks
  head_rules (run q) = out_rules f q

  abbrev pub copied_rule : (List ℕ → List LookName) → Rule L → Rule L
  copied_rule these ρ = record { constructor = ρ.constructor; guard = ρ.guard; demands = map (λ d. map look_number (these d)) ρ.demands }

  abbrev pub way_rule : OutRule L → Way L → Rule L
  way_rule ρ y = record {
    constructor = ρ.rule.constructor;
    guard = λ l. ρ.rule.guard l && y.guard l;
    demands = merge (map (λ d. map look_number (firsts d)) ρ.rule.demands) (map (λ d. map look_number (asked d)) y.demands);
  }

  abbrev pub look_rules : LookName → List (Rule L)
  look_rules (of_first s) = map (copied_rule firsts) (rules_of f.looks s)
  look_rules (of_second s) = map (copied_rule seconds) (rules_of g.looks s)
  look_rules (middle q all) = flat_map (λ ρ. map (way_rule ρ) (ways g ρ.term (record { first = run q; all = all; second = None }))) (out_rules f q)

  -- two identities are the identity, and any other triple its state
  abbrev pub head_as : Triple → Head → Option Head → Head
  head_as x identity (Some identity) = identity
  head_as x h k = run (number x)

  abbrev pub head_for : Triple → Head
  head_for x = head_as x x.first x.second

  abbrev mutual
    pub with_heads : Term Triple (L → L) → Term Head (L → L)
    with_heads (on x j) = on (head_for x) j
    with_heads (build c m ps) = build c m (parts_with_heads ps)

    pub parts_with_heads : Parts Triple (L → L) → Parts Head (L → L)
    parts_with_heads no_parts = no_parts
    parts_with_heads (part p ps) = part (with_heads p) (parts_with_heads ps)

  -- a way of a triple has a term
  abbrev pub out_term : Term Head (L → L) → Option (Term Triple (L → L)) → Term Head (L → L)
  out_term p None = p
  out_term p (Some z) = with_heads z

  abbrev pub out_rule : OutRule L → Way L → OutRule L
  out_rule ρ y = record { rule = way_rule ρ y; term = out_term ρ.term y.term }

  abbrev pub triple_rules : Triple → List (OutRule L)
  triple_rules x = flat_map (λ ρ. map (out_rule ρ) (ways g ρ.term x)) (head_rules x.first)

  abbrev pub built_of : List LookName → List Triple → Sttr L
  built_of looks names = record { looks = map look_rules looks; rules = map triple_rules names }

  -- the names of what is demanded are there, at their numbers
  abbrev pub AreNumbered : List LookName → List LookName → Type 0
  AreNumbered looks wanted = Each (λ n. IsAt looks (look_number n) n) wanted

  abbrev pub IsLookClosed : List LookName → LookName → Type 0
  IsLookClosed looks (of_first s) = (ρ : Rule L) → Contains (rules_of f.looks s) ρ → (j : ℕ) → AreNumbered looks (firsts (get_or ρ.demands j []))
  IsLookClosed looks (of_second s) = (ρ : Rule L) → Contains (rules_of g.looks s) ρ → (j : ℕ) → AreNumbered looks (seconds (get_or ρ.demands j []))
  IsLookClosed looks (middle q all) =
      (ρ : OutRule L) → Contains (out_rules f q) ρ → (y : Way L) → Contains (ways g ρ.term (record { first = run q; all = all; second = None })) y
      → (j : ℕ) → AreNumbered looks (firsts (get_or ρ.rule.demands j []) ++ asked (get_or y.demands j []))

  -- and so are the names of what is called
  abbrev pub AreCalled : List Triple → Option (Term Triple (L → L)) → Type 0
  AreCalled names None = ⊥
  AreCalled names (Some z) = (d : Triple) (j : ℕ) → Occurs d j z → IsNamed ranks (λ l. l ≡ l) f g names (head_for d) d

  abbrev pub IsClosed : List LookName → List Triple → Triple → Type 0
  IsClosed looks names x =
      (ρ : OutRule L) → Contains (head_rules x.first) ρ → (y : Way L) → Contains (ways g ρ.term x) y
      → ((j : ℕ) → AreNumbered looks (firsts (get_or ρ.rule.demands j []) ++ asked (get_or y.demands j []))) × AreCalled names y.term

-- closed names of states that there are give a transducer that is built
abbrev pub ClosedIsBuilt : Type 0 → Type 0
ClosedIsBuilt L = (ranks into : List ℕ) (d : L → Bool) (f g : Sttr L) (number : Triple → ℕ) (look_number : LookName → ℕ) (looks : List LookName) (names : List Triple)
    → SttrFits g into → AreNames (LookNameFits f g) looks → AreNames (λ x. AreStates g.looks x.all) names
    → AreNames (IsLookClosed ranks f g number look_number looks) looks → AreNames (IsClosed ranks f g number look_number looks names) names
    → IsBuilt ranks (Told d) f g looks names (built_of ranks f g number look_number looks names)
