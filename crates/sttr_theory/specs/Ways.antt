-- The ways in which a second transducer can run over a term, as lists.
use Rattle.std.specs.List.{flat_map}
use Rattle.std.specs.Prelude.{ℕ, zero, suc, ◌==◌, ◌&&◌, ◌||◌, Bool, true, false, cond, List, [], ◌∷◌, ◌++◌, map, get_or, Option, Some, None, ⊤}
use Rattle.model_sta.specs.Automaton.{Rule, rules_of}
use Rattle.model_sttr.specs.Terms.{Term, on, build, Parts, no_parts, part}
use Rattle.model_sttr.specs.Transducer.{Head, identity, run, OutRule, Sttr, out_rules}
use Rattle.sttr_theory.specs.Lists.{pairs, alone, merge, once}
use Rattle.sttr_theory.specs.Triples.{Triple, Way}
use Rattle.sttr_theory.specs.Built.{kept}

-- a way with a term of any kind
pub record WayOf (L X : Type 0) : Type 0 where
  pub guard : L → Bool
  pub demands : List (List Triple)
  pub term : X

abbrev pub first_of : ⊤ → ⊤ → ⊤
first_of a b = tt

abbrev pub second_of : {X : Type 0} → ⊤ → X → X
second_of a x = x

-- rules picked for the demanded states
pub record Pick (L : Type 0) : Type 0 where
  pub guard : L → Bool
  pub wants : ℕ → List ℕ

module _ {L : Type 0} where
  abbrev pub plain : {X : Type 0} → X → WayOf L X
  plain x = record { guard = λ l. true; demands = []; term = x }

  abbrev pub joined : {X Y Z : Type 0} → (X → Y → Z) → WayOf L X → WayOf L Y → WayOf L Z
  joined f y z = record { guard = λ l. y.guard l && z.guard l; demands = merge y.demands z.demands; term = f y.term z.term }

  abbrev pub guarded : {X : Type 0} → (L → Bool) → WayOf L X → WayOf L X
  guarded g y = record { guard = λ l. g l && y.guard l; demands = y.demands; term = y.term }

  abbrev pub with_term : {X Y : Type 0} → (X → Y) → WayOf L X → WayOf L Y
  with_term f y = record { guard = y.guard; demands = y.demands; term = f y.term }

  -- the ways of a triple, without a term and with one
  abbrev pub free_way : WayOf L ⊤ → Way L
  free_way y = record { guard = y.guard; demands = y.demands; term = None }

  abbrev pub giving_way : WayOf L (Term Triple (L → L)) → Way L
  giving_way y = record { guard = y.guard; demands = y.demands; term = Some y.term }

  -- the rule may be used under constructor c
  abbrev pub fires : Rule L → ℕ → L → Bool
  fires r c l = (r.constructor == c) && r.guard l

  abbrev pub pick : ℕ → Rule L → Pick L → Pick L
  pick c r x = record { guard = λ l. fires r c l && x.guard l; wants = λ j. get_or r.demands j [] ++ x.wants j }

  abbrev pub picks_of : List (List (Rule L)) → ℕ → List ℕ → List (Pick L)
  picks_of A c [] = record { guard = λ l. true; wants = λ j. [] } ∷ []
  picks_of A c (s ∷ Z) = pairs (pick c) (rules_of A s) (picks_of A c Z)

  abbrev pub size : Parts Head (L → L) → ℕ
  size no_parts = 0
  size (part p ps) = suc (size ps)

  abbrev mutual
    -- whether the term uses child j
    pub uses : ℕ → Term Head (L → L) → Bool
    uses j (on h k) = k == j
    uses j (build c m ps) = uses_in j ps

    pub uses_in : ℕ → Parts Head (L → L) → Bool
    uses_in j no_parts = false
    uses_in j (part p ps) = uses j p || uses_in j ps

  -- the ways of the second's term, where `Os h j` are those of its head h on part j, and m makes the middle label
  module _ (m : L → L) (Os : Head → ℕ → List (WayOf L (Term Triple (L → L)))) where
    abbrev mutual
      pub over_term : Term Head (L → L) → List (WayOf L (Term Triple (L → L)))
      over_term (on h j) = Os h j
      over_term (build c n qs) = map (with_term (build c (λ l. n (m l)))) (over_parts qs)

      pub over_parts : Parts Head (L → L) → List (WayOf L (Parts Triple (L → L)))
      over_parts no_parts = plain no_parts ∷ []
      over_parts (part q qs) = pairs (joined part) (over_term q) (over_parts qs)

module _ {L : Type 0} where
  -- a call; of a child that is given unchanged the demands are asked apart
  abbrev pub leaf_ways : Head → ℕ → Head → List ℕ → List (WayOf L (Term Triple (L → L)))
  leaf_ways identity j k Z =
      record {
        guard = λ l. true;
        demands = alone j (record { first = identity; all = Z; second = None });
        term = on (record { first = identity; all = []; second = Some k }) j;
      } ∷ []
  leaf_ways (run q) j k Z = plain (on (record { first = run q; all = Z; second = Some k }) j) ∷ []

module _ {L : Type 0} (T : Sttr L) where
  abbrev mutual
    -- the ways in which the demands Z run over the term
    pub free_ways : Term Head (L → L) → List ℕ → List (WayOf L ⊤)
    free_ways (on h j) Z = record { guard = λ l. true; demands = alone j (record { first = h; all = Z; second = None }); term = tt } ∷ []
    free_ways (build c m ps) Z = flat_map (λ x. map (guarded (λ l. x.guard (m l))) (rest_ways (λ j. false) ps x.wants)) (picks_of T.looks c (once Z))

    -- the ways in which what is demanded of the parts that are not used runs over them
    pub rest_ways : (ℕ → Bool) → Parts Head (L → L) → (ℕ → List ℕ) → List (WayOf L ⊤)
    rest_ways U no_parts E = plain tt ∷ []
    rest_ways U (part p ps) E = pairs (joined first_of) (cond (U 0) (plain tt ∷ []) (free_ways p (E 0))) (rest_ways (λ j. U (suc j)) ps (λ j. E (suc j)))

  -- the ways of a rule of the second at a middle node, where `Os j Z h` are those of its head h on part j
  module _ (c : ℕ) (m : L → L) (Os : ℕ → List ℕ → Head → List (WayOf L (Term Triple (L → L)))) (ps : Parts Head (L → L)) (E : ℕ → List ℕ) where
    abbrev pub rule_ways : OutRule L → List (WayOf L (Term Triple (L → L)))
    rule_ways r =
        map (guarded (λ l. fires r.rule c (m l)))
        (pairs (joined second_of) (rest_ways (λ j. uses j r.term) ps (λ j. E j ++ get_or r.rule.demands j [])) (over_term m (λ h j. Os j (E j ++ get_or r.rule.demands j []) h) r.term))

    abbrev pub step_ways : Head → List (WayOf L (Term Triple (L → L)))
    step_ways identity = over_term m (λ h j. Os j (E j) h) (build c (λ l. l) (kept 0 (size ps)))
    step_ways (run q) = flat_map rule_ways (out_rules T q)

  abbrev mutual
    -- the ways in which the demands Z and the second's head k run over the term
    pub gives_ways : Term Head (L → L) → List ℕ → Head → List (WayOf L (Term Triple (L → L)))
    gives_ways (on h j) Z k = leaf_ways h j k Z
    gives_ways (build c m ps) Z k = flat_map (λ x. map (guarded (λ l. x.guard (m l))) (step_ways c m (λ j Z' h. gives_at j ps Z' h) ps x.wants k)) (picks_of T.looks c (once Z))

    pub gives_at : ℕ → Parts Head (L → L) → List ℕ → Head → List (WayOf L (Term Triple (L → L)))
    gives_at j no_parts Z h = []
    gives_at zero (part p ps) Z h = gives_ways p Z h
    gives_at (suc j) (part p ps) Z h = gives_at j ps Z h

  abbrev pub ways_for : Term Head (L → L) → List ℕ → Option Head → List (Way L)
  ways_for p Z None = map free_way (free_ways p Z)
  ways_for p Z (Some k) = map giving_way (gives_ways p Z k)

  -- the ways in which the triple can run over the term
  abbrev pub ways : Term Head (L → L) → Triple → List (Way L)
  ways p x = ways_for p x.all x.second
