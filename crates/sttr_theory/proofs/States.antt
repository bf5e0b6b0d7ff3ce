-- Ways depend on the demanded states as a set: of other lists of the same states, in whatever order and however often, the
-- ways cover these.
use Rattle.std.specs.Prelude.{⊤}
use Rattle.std.specs.List.{flat_map}
use Rattle.std.proofs.Common.{ℕ, zero, suc, ◌⊎◌, cond, Bool, true, false, List, [], ◌∷◌, ◌++◌, map, get_or, Option, Some, None, Contains, refl, inl, inr}
use Rattle.model_sta.specs.Automaton.{Rule}
use Rattle.model_sttr.specs.Terms.{Term, on, build, Parts, no_parts, part}
use Rattle.model_sttr.specs.Transducer.{Head, identity, run, OutRule, Sttr, out_rules}
use Rattle.sttr_theory.specs.Lists.{pairs, alone, once, SameStates}
use Rattle.sttr_theory.specs.Covers.{Covers, Never}
use Rattle.sttr_theory.specs.Triples.{Triple}
use Rattle.sttr_theory.specs.Ways.{WayOf, Pick, plain, joined, guarded, first_of, second_of, fires, picks_of, size, uses, over_term, over_parts, leaf_ways, free_ways, rest_ways, rule_ways, step_ways, gives_ways, gives_at, ways_for}
use Rattle.sttr_theory.specs.Alike.{AlikeWay, AlikeOf, SameTerms, SameParts, CoverWays, AlikePick}
use Rattle.sttr_theory.proofs.Members.{in_left, in_right, in_either}
use Rattle.sttr_theory.proofs.Once.{once_is, once_states, same_self, same_turned, same_twice}
use Rattle.sttr_theory.proofs.Covers.{covers_one, covers_flat, covers_each, covers_none}
use Rattle.sttr_theory.proofs.Runs.{copy}
use Rattle.sttr_theory.proofs.AlikeWays.{asked_states, demands_alone, cover_plain, cover_guarded, cover_with_term, cover_joined, cover_free, cover_giving}
use Rattle.sttr_theory.proofs.Picks.{picks_cover}

pub same_append : (Z Z' W W' : List ℕ) → SameStates Z W → SameStates Z' W' → SameStates (Z ++ Z') (W ++ W')
same_append Z Z' W W' a b = (λ s c. out s (in_either Z Z' s c), λ s c. back s (in_either W W' s c))
  where
    out : (s : ℕ) → Contains Z s ⊎ Contains Z' s → Contains (W ++ W') s
    out s (inl c) = in_left W W' s (a.0 s c)
    out s (inr c) = in_right W W' s (b.0 s c)

    back : (s : ℕ) → Contains W s ⊎ Contains W' s → Contains (Z ++ Z') s
    back s (inl c) = in_left Z Z' s (a.1 s c)
    back s (inr c) = in_right Z Z' s (b.1 s c)

pub same_onces : (Z W : List ℕ) → SameStates Z W → SameStates (once Z) (once W)
same_onces Z W same = same_twice (once Z) Z (once W) (once_states Z) (same_twice Z W (once W) same (same_turned (once W) W (once_states W)))

-- of each child the same states
abbrev pub SameEach : (ℕ → List ℕ) → (ℕ → List ℕ) → Type 0
SameEach E F = (j : ℕ) → SameStates (E j) (F j)

-- picked rules with the same guard and the same demands
abbrev pub EqualPicks : {L : Type 0} → List (Pick L) → List (Pick L) → Type 0
EqualPicks {L} xs zs = Covers (AlikePick (λ (l : L). ⊤) (λ l. l)) (λ z. ⊥) xs zs

pub picks_same : {L : Type 0} (A : List (List (Rule L))) (c : ℕ) (Z W : List ℕ) → SameStates Z W → EqualPicks (picks_of A c (once Z)) (picks_of A c (once W))
picks_same A c Z W same = picks_cover A c (λ l. ⊤) (once Z) (once W) (once_is Z) (once_is W) (same_onces Z W same)

module _ {L : Type 0} (D : L → Type 0) where
  -- ways behind picked rules
  pub cover_behind : {X Y : Type 0} (P : X → Y → Type 0) (m : L → L) (f : Pick L → List (WayOf L X)) (g : Pick L → List (WayOf L Y)) (xs zs : List (Pick L)) → ((x z : Pick L) → SameEach x.wants z.wants → CoverWays D P (f x) (g z))
      → EqualPicks xs zs → CoverWays D P (flat_map (λ x. map (guarded (λ l. x.guard (m l))) (f x)) xs) (flat_map (λ z. map (guarded (λ l. z.guard (m l))) (g z)) zs)
  cover_behind P m f g xs zs is a =
      covers_flat (AlikePick (λ l. ⊤) (λ l. l)) (λ z. ⊥) (AlikeOf D P) (λ z. Never D z.guard) (λ x. map (guarded (λ l. x.guard (m l))) (f x)) (λ z. map (guarded (λ l. z.guard (m l))) (g z)) xs zs
      (λ x z at at' r. cover_guarded D P (λ l. x.guard (m l)) (λ l. z.guard (m l)) (λ l d. r.same_guard (m l) tt) (f x) (g z) (is x z r.same_wants)) (λ z at o. absurd o) a

  module _ (T : Sttr L) where
    abbrev Any : ⊤ → ⊤ → Type 0
    Any a b = ⊤

    mutual
      pub free_same : (p : Term Head (L → L)) (Z W : List ℕ) → SameStates Z W → CoverWays D Any (free_ways T p Z) (free_ways T p W)
      free_same (on h j) Z W same =
          covers_one (AlikeOf D Any) (λ z. Never D z.guard) (record { guard = λ l. true; demands = alone j (record { first = h; all = Z; second = None }); term = tt }) (record { guard = λ l. true; demands = alone j (record { first = h; all = W; second = None }); term = tt })
          (record { same_guard = λ l d. refl; same_demands = demands_alone j (record { first = h; all = Z; second = None }) (record { first = h; all = W; second = None }) (asked_states h Z W None None same); same_term = tt })
      free_same (build c m ps) Z W same =
          cover_behind Any m (λ x. rest_ways T (λ j. false) ps x.wants) (λ x. rest_ways T (λ j. false) ps x.wants) (picks_of T.looks c (once Z)) (picks_of T.looks c (once W))
          (λ x z r. rest_same (λ j. false) ps x.wants z.wants r) (picks_same T.looks c Z W same)

      pub rest_same : (U : ℕ → Bool) (ps : Parts Head (L → L)) (E F : ℕ → List ℕ) → SameEach E F → CoverWays D Any (rest_ways T U ps E) (rest_ways T U ps F)
      rest_same U no_parts E F same = cover_plain D Any tt tt tt
      rest_same U (part p ps) E F same =
          cover_joined D Any Any Any first_of first_of (λ x x' y y' a b. tt) (cond (U 0) (plain tt ∷ []) (free_ways T p (E 0))) (cond (U 0) (plain tt ∷ []) (free_ways T p (F 0)))
          (rest_ways T (λ j. U (suc j)) ps (λ j. E (suc j))) (rest_ways T (λ j. U (suc j)) ps (λ j. F (suc j)))
          (either (U 0) (free_same p (E 0) (F 0) (same 0))) (rest_same (λ j. U (suc j)) ps (λ j. E (suc j)) (λ j. F (suc j)) (λ j. same (suc j)))
        where
          either : (b : Bool) → CoverWays D Any (free_ways T p (E 0)) (free_ways T p (F 0)) → CoverWays D Any (cond b (plain tt ∷ []) (free_ways T p (E 0))) (cond b (plain tt ∷ []) (free_ways T p (F 0)))
          either true a = cover_plain D Any tt tt tt
          either false a = a

    module _ (m : L → L) (Os Os' : Head → ℕ → List (WayOf L (Term Triple (L → L)))) (each : (h : Head) (j : ℕ) → CoverWays D (SameTerms D) (Os h j) (Os' h j)) where
      mutual
        -- the second's term over lists that cover others
        pub over_covers : (q : Term Head (L → L)) → CoverWays D (SameTerms D) (over_term m Os q) (over_term m Os' q)
        over_covers (on h j) = each h j
        over_covers (build c n qs) = cover_with_term D (SameParts D) (SameTerms D) (build c (λ l. n (m l))) (build c (λ l. n (m l))) (λ p q s. (refl, (λ l d. refl), s)) (over_parts m Os qs) (over_parts m Os' qs) (overs_cover qs)

        pub overs_cover : (qs : Parts Head (L → L)) → CoverWays D (SameParts D) (over_parts m Os qs) (over_parts m Os' qs)
        overs_cover no_parts = cover_plain D (SameParts D) no_parts no_parts tt
        overs_cover (part q qs) = cover_joined D (SameTerms D) (SameParts D) (SameParts D) part part (λ x x' y y' a b. (a, b)) (over_term m Os q) (over_term m Os' q) (over_parts m Os qs) (over_parts m Os' qs) (over_covers q) (overs_cover qs)

    module _ (c : ℕ) (m : L → L) (Os Os' : ℕ → List ℕ → Head → List (WayOf L (Term Triple (L → L)))) (each : (j : ℕ) (Z W : List ℕ) (h : Head) → SameStates Z W → CoverWays D (SameTerms D) (Os j Z h) (Os' j W h)) (ps : Parts Head (L → L)) (E F : ℕ → List ℕ) (same : SameEach E F) where
      more_same : (r : OutRule L) → SameEach (λ j. E j ++ get_or r.rule.demands j []) (λ j. F j ++ get_or r.rule.demands j [])
      more_same r j = same_append (E j) (get_or r.rule.demands j []) (F j) (get_or r.rule.demands j []) (same j) (same_self (get_or r.rule.demands j []))

      pub rule_covers : (r : OutRule L) → CoverWays D (SameTerms D) (rule_ways T c m Os ps E r) (rule_ways T c m Os' ps F r)
      rule_covers r =
          cover_guarded D (SameTerms D) (λ l. fires r.rule c (m l)) (λ l. fires r.rule c (m l)) (λ l d. refl) (pairs (joined second_of) (rest E) (over Os E)) (pairs (joined second_of) (rest F) (over Os' F))
          (cover_joined D Any (SameTerms D) (SameTerms D) second_of second_of (λ x x' y y' a b. b) (rest E) (rest F) (over Os E) (over Os' F)
          (rest_same (λ j. uses j r.term) ps (λ j. E j ++ get_or r.rule.demands j []) (λ j. F j ++ get_or r.rule.demands j []) (more_same r))
          (over_covers m (λ h j. Os j (E j ++ get_or r.rule.demands j []) h) (λ h j. Os' j (F j ++ get_or r.rule.demands j []) h) (λ h j. each j (E j ++ get_or r.rule.demands j []) (F j ++ get_or r.rule.demands j []) h (more_same r j)) r.term))
        where
          rest : (ℕ → List ℕ) → List (WayOf L ⊤)
          rest G = rest_ways T (λ j. uses j r.term) ps (λ j. G j ++ get_or r.rule.demands j [])

          over : (ℕ → List ℕ → Head → List (WayOf L (Term Triple (L → L)))) → (ℕ → List ℕ) → List (WayOf L (Term Triple (L → L)))
          over Ps G = over_term m (λ h j. Ps j (G j ++ get_or r.rule.demands j []) h) r.term

      pub step_covers : (k : Head) → CoverWays D (SameTerms D) (step_ways T c m Os ps E k) (step_ways T c m Os' ps F k)
      step_covers identity = over_covers m (λ h j. Os j (E j) h) (λ h j. Os' j (F j) h) (λ h j. each j (E j) (F j) h (same j)) (copy c (size ps))
      step_covers (run q) = covers_each (AlikeOf D (SameTerms D)) (λ z. Never D z.guard) (rule_ways T c m Os ps E) (rule_ways T c m Os' ps F) (out_rules T q) (λ r at. rule_covers r)

    leaf_same : (h : Head) (j : ℕ) (k : Head) (Z W : List ℕ) → SameStates Z W → CoverWays D (SameTerms D) (leaf_ways h j k Z) (leaf_ways h j k W)
    leaf_same identity j k Z W same = covers_one (AlikeOf D (SameTerms D)) (λ z. Never D z.guard) (leaf Z) (leaf W) (record {
      same_guard = λ l d. refl;
      same_demands = demands_alone j (record { first = identity; all = Z; second = None }) (record { first = identity; all = W; second = None }) (asked_states identity Z W None None same);
      same_term = ((refl, same_self [], refl), refl);
    })
      where
        leaf : List ℕ → WayOf L (Term Triple (L → L))
        leaf V = record { guard = λ l. true; demands = alone j (record { first = identity; all = V; second = None }); term = on (record { first = identity; all = []; second = Some k }) j }
    leaf_same (run q) j k Z W same = cover_plain D (SameTerms D) (on (record { first = run q; all = Z; second = Some k }) j) (on (record { first = run q; all = W; second = Some k }) j) ((refl, same, refl), refl)

    mutual
      pub gives_same : (p : Term Head (L → L)) (Z W : List ℕ) (k : Head) → SameStates Z W → CoverWays D (SameTerms D) (gives_ways T p Z k) (gives_ways T p W k)
      gives_same (on h j) Z W k same = leaf_same h j k Z W same
      gives_same (build c m ps) Z W k same =
          cover_behind (SameTerms D) m (λ x. step_ways T c m (λ j Z' h. gives_at T j ps Z' h) ps x.wants k) (λ x. step_ways T c m (λ j Z' h. gives_at T j ps Z' h) ps x.wants k) (picks_of T.looks c (once Z)) (picks_of T.looks c (once W))
          (λ x z r. step_covers c m (λ j Z' h. gives_at T j ps Z' h) (λ j Z' h. gives_at T j ps Z' h) (λ j Z' W' h same'. gives_at_same ps j Z' W' h same') ps x.wants z.wants r k) (picks_same T.looks c Z W same)

      pub gives_at_same : (ps : Parts Head (L → L)) (j : ℕ) (Z W : List ℕ) (h : Head) → SameStates Z W → CoverWays D (SameTerms D) (gives_at T j ps Z h) (gives_at T j ps W h)
      gives_at_same no_parts j Z W h same = covers_none (AlikeOf D (SameTerms D)) (λ z. Never D z.guard)
      gives_at_same (part p ps) zero Z W h same = gives_same p Z W h same
      gives_at_same (part p ps) (suc j) Z W h same = gives_at_same ps j Z W h same

    -- the ways of a triple over a term
    pub ways_same : (p : Term Head (L → L)) (Z W : List ℕ) (k : Option Head) → SameStates Z W → Covers (AlikeWay D) (λ z. Never D z.guard) (ways_for T p Z k) (ways_for T p W k)
    ways_same p Z W None same = cover_free D (free_ways T p Z) (free_ways T p W) (free_same p Z W same)
    ways_same p Z W (Some k) same = cover_giving D (gives_ways T p Z k) (gives_ways T p W k) (gives_same p Z W k same)
