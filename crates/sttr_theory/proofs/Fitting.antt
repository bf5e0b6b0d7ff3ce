-- The ways of the lists ask and call only what stands in the term, of states that there are, and are linear where they should be.
use Rattle.std.specs.Prelude.{⊤}
use Rattle.std.specs.List.{flat_map}
use Rattle.std.proofs.Common.{ℕ, zero, suc, ◌≡◌, ◌⊎◌, ◌<◌, cond, Bool, true, false, List, [], ◌∷◌, ◌++◌, map, get_or, length, Some, None, Contains, refl, sym, ap, subst, inl, inr}
use Rattle.model_sta.specs.Automaton.{Rule, rules_of}
use Rattle.model_sta.specs.Sets.{Each}
use Rattle.model_sta.specs.Operations.{AreStates}
use Rattle.model_sttr.specs.Terms.{Term, on, build, Parts, no_parts, part, Occurs, OccursIn, Uses, UsesIn, IsLinear, AreLinear}
use Rattle.model_sttr.specs.Transducer.{Head, identity, run, OutRule, Sttr, out_rules, IsHead, AllLinear, SttrFits}
use Rattle.model_sttr.proofs.Instances.{occurs_uses}
use Rattle.sttr_theory.specs.Lists.{pairs, once}
use Rattle.sttr_theory.specs.Triples.{Triple, AsksApart}
use Rattle.sttr_theory.specs.Built.{kept}
use Rattle.sttr_theory.specs.Ways.{WayOf, plain, leaf_ways, joined, guarded, with_term, first_of, second_of, pick, picks_of, fires, size, uses, over_term, over_parts, free_ways, rest_ways, rule_ways, step_ways, gives_ways, gives_at}
use Rattle.sttr_theory.proofs.Members.{here, there}
use Rattle.sttr_theory.proofs.Each.{each_both, each_map, each_to_map, each_at, each_get}
use Rattle.sttr_theory.proofs.Runs.{copy}
use Rattle.sttr_theory.proofs.Kept.{kept_occurs, kept_linear}
use Rattle.sttr_theory.proofs.OneOf.{EachAt, merge_iff, alone_in}

pub each_flat : {X Y : Type 0} (P : Y → Type 0) (f : X → List Y) (xs : List X) → ((x : X) → Contains xs x → Each P (f x)) → Each P (flat_map f xs)
each_flat P f [] g = tt
each_flat P f (x ∷ xs) g = each_both P (f x) (flat_map f xs) (g x (here x xs)) (each_flat P f xs (λ y c. g y (there x xs y c)))

pub each_pairs : {X Y Z : Type 0} (P : X → Type 0) (Q : Y → Type 0) (R : Z → Type 0) (f : X → Y → Z) → ((x : X) (y : Y) → P x → Q y → R (f x y)) → (xs : List X) (ys : List Y) → Each P xs → Each Q ys → Each R (pairs f xs ys)
each_pairs P Q R f g xs ys a b = each_flat R (λ x. map (f x) ys) xs (λ x c. each_to_map R (f x) ys (each_map Q (λ y. R (f x y)) (λ y q. g x y (each_at P xs x a c) q) ys b))

run_same : (q : ℕ) → run q ≡ identity → ⊥
run_same q e = cc

module _ {H M : Type 0} where
  mutual
    -- something stands at a child that is used
    pub uses_occurs : (j : ℕ) (p : Term H M) → Uses j p → (h : H) × Occurs h j p
    uses_occurs j (on h i) u = (h, (refl, u))
    uses_occurs j (build c m ps) u = uses_occurs_in j ps u

    pub uses_occurs_in : (j : ℕ) (ps : Parts H M) → UsesIn j ps → (h : H) × OccursIn h j ps
    uses_occurs_in j no_parts u = absurd u
    uses_occurs_in j (part p ps) (inl u) = let (h, o) = uses_occurs j p u in (h, inl o)
    uses_occurs_in j (part p ps) (inr u) = let (h, o) = uses_occurs_in j ps u in (h, inr o)

  -- h stands at child i in part j
  abbrev pub OccursAt : H → ℕ → ℕ → Parts H M → Type 0
  OccursAt h i j no_parts = ⊥
  OccursAt h i zero (part p ps) = Occurs h i p
  OccursAt h i (suc j) (part p ps) = OccursAt h i j ps

  pub occurs_at_in : (h : H) (i j : ℕ) (ps : Parts H M) → OccursAt h i j ps → OccursIn h i ps
  occurs_at_in h i j no_parts o = o
  occurs_at_in h i zero (part p ps) o = inl o
  occurs_at_in h i (suc j) (part p ps) o = inr (occurs_at_in h i j ps o)

  occurs_at_uses : (h : H) (i j : ℕ) (ps : Parts H M) → OccursAt h i j ps → UsesIn i ps
  occurs_at_uses h i j no_parts o = o
  occurs_at_uses h i zero (part p ps) o = inl (occurs_uses h i p o)
  occurs_at_uses h i (suc j) (part p ps) o = inr (occurs_at_uses h i j ps o)

  -- only one part uses a child
  pub one_part : (ps : Parts H M) → AreLinear ps → (h k : H) (i j j' : ℕ) → OccursAt h i j ps → OccursAt k i j' ps → j ≡ j'
  one_part no_parts lin h k i j j' a b = absurd a
  one_part (part p ps) lin h k i zero zero a b = refl
  one_part (part p ps) lin h k i zero (suc j') a b = absurd (lin.2 i (occurs_uses h i p a) (occurs_at_uses k i j' ps b))
  one_part (part p ps) lin h k i (suc j) zero a b = absurd (lin.2 i (occurs_uses k i p b) (occurs_at_uses h i j ps a))
  one_part (part p ps) lin h k i (suc j) (suc j') a b = ap suc (one_part ps lin.1 h k i j j' a b)

module _ {L : Type 0} (T : Sttr L) where
  -- each demand is on what U holds of, with states that there are
  abbrev pub Asks : {X : Type 0} → (Head → ℕ → Type 0) → WayOf L X → Type 0
  Asks U y = EachAt (λ j d. U d.first j × AreStates T.looks d.all) y.demands

  -- the triple calls on what U holds of, by a second part of V
  abbrev pub CallsOn : (Head → ℕ → Type 0) → (Head → Type 0) → Triple → ℕ → Type 0
  CallsOn U V d j = (U d.first j × AreStates T.looks d.all) × (h : Head) × (d.second ≡ Some h) × V h × AsksApart d

  -- a way with a term, and with parts of one; it is linear where P
  abbrev pub Good : (Head → ℕ → Type 0) → (Head → Type 0) → Type 0 → WayOf L (Term Triple (L → L)) → Type 0
  Good U V P y = Asks U y × ((d : Triple) (j : ℕ) → Occurs d j y.term → CallsOn U V d j) × (P → IsLinear y.term)

  abbrev pub GoodParts : (Head → ℕ → Type 0) → (Head → Type 0) → Type 0 → WayOf L (Parts Triple (L → L)) → Type 0
  GoodParts U V P y = Asks U y × ((d : Triple) (j : ℕ) → OccursIn d j y.term → CallsOn U V d j) × (P → AreLinear y.term)

  asks_map : {X : Type 0} (U W : Head → ℕ → Type 0) → ((h : Head) (j : ℕ) → U h j → W h j) → (y : WayOf L X) → Asks U y → Asks W y
  asks_map U W f y a j = each_map (λ d. U d.first j × AreStates T.looks d.all) (λ d. W d.first j × AreStates T.looks d.all) (λ d x. (f d.first j x.0, x.1)) (get_or y.demands j []) (a j)

  asks_joined : {X Y Z : Type 0} (U : Head → ℕ → Type 0) (f : X → Y → Z) (x : WayOf L X) (y : WayOf L Y) → Asks U x → Asks U y → Asks U (joined f x y)
  asks_joined U f x y a b = (merge_iff (λ j d. U d.first j × AreStates T.looks d.all) x.demands y.demands).1 (a, b)

  pub good_map : (U W : Head → ℕ → Type 0) (V V' : Head → Type 0) (P P' : Type 0) → ((h : Head) (j : ℕ) → U h j → W h j) → ((h : Head) → V h → V' h) → (P' → P) → (y : WayOf L (Term Triple (L → L))) → Good U V P y → Good W V' P' y
  good_map U W V V' P P' f g k y a = (
    asks_map U W f y a.0,
    (λ d j o. let (x, h, e, v, n) = a.1 d j o in ((f d.first j x.0, x.1), h, e, g h v, n)),
    λ p. a.2 (k p),
  )

  -- a part of the second's term gives what stands in the parts that it uses
  abbrev Through : Parts Head (L → L) → (ℕ → Type 0) → Head → ℕ → Type 0
  Through ps W h i = (j : ℕ) × W j × OccursAt h i j ps

  module _ (ps : Parts Head (L → L)) (V : Head → Type 0) (lp : Type 0) (lin : lp → AreLinear ps) (m : L → L) (Os : Head → ℕ → List (WayOf L (Term Triple (L → L)))) where
    -- the ways for each part are good
    abbrev Sources : (Head → ℕ → Type 0) → Type 0
    Sources W = (h : Head) (j : ℕ) → W h j → Each (Good (λ k i. OccursAt k i j ps) V lp) (Os h j)

    -- a child that a way's term uses is one of what it may call
    from_use : (W : ℕ → Type 0) (y : WayOf L (Term Triple (L → L))) → ((d : Triple) (j : ℕ) → Occurs d j y.term → CallsOn (Through ps W) V d j) → (i : ℕ) → Uses i y.term → (h : Head) × Through ps W h i
    from_use W y calls i u = let (d, o) = uses_occurs i y.term u in (d.first, (calls d i o).0.0)

    from_uses : (W : ℕ → Type 0) (y : WayOf L (Parts Triple (L → L))) → ((d : Triple) (j : ℕ) → OccursIn d j y.term → CallsOn (Through ps W) V d j) → (i : ℕ) → UsesIn i y.term → (h : Head) × Through ps W h i
    from_uses W y calls i u = let (d, o) = uses_occurs_in i y.term u in (d.first, (calls d i o).0.0)

    joined_good : (q : Term Head (L → L)) (qs : Parts Head (L → L)) (y : WayOf L (Term Triple (L → L))) (z : WayOf L (Parts Triple (L → L)))
        → Good (Through ps (λ j. Uses j q)) V (lp × IsLinear q) y → GoodParts (Through ps (λ j. UsesIn j qs)) V (lp × AreLinear qs) z → GoodParts (Through ps (λ j. UsesIn j (part q qs))) V (lp × AreLinear (part q qs)) (joined part y z)
    joined_good q qs y z a b = (
      asks_joined (Through ps (λ j. UsesIn j (part q qs))) part y z
          (asks_map (Through ps (λ j. Uses j q)) (Through ps (λ j. UsesIn j (part q qs))) left y a.0)
          (asks_map (Through ps (λ j. UsesIn j qs)) (Through ps (λ j. UsesIn j (part q qs))) right z b.0),
      (λ d j o. calls d j o),
      λ l. (a.2 (l.0, l.1.0), b.2 (l.0, l.1.1), λ i u v. apart l i u v),
    )
      where
        left : (h : Head) (j : ℕ) → Through ps (λ j. Uses j q) h j → Through ps (λ j. UsesIn j (part q qs)) h j
        left h j t = (t.0, inl t.1, t.2)

        right : (h : Head) (j : ℕ) → Through ps (λ j. UsesIn j qs) h j → Through ps (λ j. UsesIn j (part q qs)) h j
        right h j t = (t.0, inr t.1, t.2)

        calls : (d : Triple) (j : ℕ) → OccursIn d j (part y.term z.term) → CallsOn (Through ps (λ j. UsesIn j (part q qs))) V d j
        calls d j (inl o) = let (x, h, e, v, n) = a.1 d j o in ((left d.first j x.0, x.1), h, e, v, n)
        calls d j (inr o) = let (x, h, e, v, n) = b.1 d j o in ((right d.first j x.0, x.1), h, e, v, n)

        apart : lp × AreLinear (part q qs) → (i : ℕ) → Uses i y.term → UsesIn i z.term → ⊥
        apart l i u v =
            let (h, (j, x, o)) = from_use (λ j. Uses j q) y a.1 i u in
            let (k, (j', x', o')) = from_uses (λ j. UsesIn j qs) z b.1 i v in
            l.1.2 j x (subst (λ n. UsesIn n qs) (sym (one_part ps (lin l.0) h k i j j' o o')) x')

    mutual
      pub over_good : (q : Term Head (L → L)) → Sources (λ h j. Occurs h j q) → Each (Good (Through ps (λ j. Uses j q)) V (lp × IsLinear q)) (over_term m Os q)
      over_good (on h j) src =
          each_map (Good (λ k i. OccursAt k i j ps) V lp) (Good (Through ps (λ i. j ≡ i)) V (lp × ⊤))
          (λ y a. good_map (λ k i. OccursAt k i j ps) (Through ps (λ i. j ≡ i)) V V lp (lp × ⊤) (λ k i o. (j, refl, o)) (λ k v. v) (λ p. p.0) y a) (Os h j) (src h j (refl, refl))
      over_good (build c n qs) src =
          each_to_map (Good (Through ps (λ j. UsesIn j qs)) V (lp × AreLinear qs)) (with_term (build c (λ l. n (m l)))) (over_parts m Os qs) (overs_good qs src)

      pub overs_good : (qs : Parts Head (L → L)) → Sources (λ h j. OccursIn h j qs) → Each (GoodParts (Through ps (λ j. UsesIn j qs)) V (lp × AreLinear qs)) (over_parts m Os qs)
      overs_good no_parts src = (((λ j. tt), (λ d j o. absurd o), λ l. tt), tt)
      overs_good (part q qs) src =
          each_pairs (Good (Through ps (λ j. Uses j q)) V (lp × IsLinear q)) (GoodParts (Through ps (λ j. UsesIn j qs)) V (lp × AreLinear qs)) (GoodParts (Through ps (λ j. UsesIn j (part q qs))) V (lp × AreLinear (part q qs))) (joined part)
          (λ y z a b. joined_good q qs y z a b) (over_term m Os q) (over_parts m Os qs) (over_good q (λ h j o. src h j (inl o))) (overs_good qs (λ h j o. src h j (inr o)))

  module _ (ranks : List ℕ) (ok : SttrFits T ranks) where
    abbrev pub InRange : (ℕ → List ℕ) → Type 0
    InRange E = (j : ℕ) → AreStates T.looks (E j)

    look_range : (s : ℕ) (r : Rule L) → Contains (rules_of T.looks s) r → InRange (λ j. get_or r.demands j [])
    look_range s r c j = each_get (λ s. s < length T.looks) r.demands j (ok.looks s r c)

    more_range : (E : ℕ → List ℕ) (q : ℕ) (r : OutRule L) → Contains (out_rules T q) r → InRange E → InRange (λ j. E j ++ get_or r.rule.demands j [])
    more_range E q r c low j = each_both (λ s. s < length T.looks) (E j) (get_or r.rule.demands j []) (low j) (each_get (λ s. s < length T.looks) r.rule.demands j (ok.rules q r c).demands)

    picks_range : (c : ℕ) (Z : List ℕ) → Each (λ x. InRange x.wants) (picks_of T.looks c Z)
    picks_range c [] = ((λ j. tt), tt)
    picks_range c (s ∷ Z) =
        each_flat (λ x. InRange x.wants) (λ r. map (pick c r) (picks_of T.looks c Z)) (rules_of T.looks s)
        (λ r here. each_to_map (λ x. InRange x.wants) (pick c r) (picks_of T.looks c Z)
        (each_map (λ x. InRange x.wants) (λ x. InRange (λ j. get_or r.demands j [] ++ x.wants j)) (λ x low j. each_both (λ s. s < length T.looks) (get_or r.demands j []) (x.wants j) (look_range s r here j) (low j)) (picks_of T.looks c Z) (picks_range c Z)))

    mutual
      pub free_asks : (p : Term Head (L → L)) (Z : List ℕ) → AreStates T.looks Z → Each (Asks (λ h j. Occurs h j p)) (free_ways T p Z)
      free_asks (on h j) Z low = (alone_in (λ i d. ((h ≡ d.first) × (j ≡ i)) × AreStates T.looks d.all) j (record { first = h; all = Z; second = None }) ((refl, refl), low), tt)
      free_asks (build c m ps) Z low =
          each_flat (Asks (λ h j. OccursIn h j ps)) (λ x. map (guarded (λ l. x.guard (m l))) (rest_ways T (λ j. false) ps x.wants)) (picks_of T.looks c (once Z))
          (λ x here. each_to_map (Asks (λ h j. OccursIn h j ps)) (guarded (λ l. x.guard (m l))) (rest_ways T (λ j. false) ps x.wants) (rest_asks (λ j. false) ps x.wants (each_at (λ x. InRange x.wants) (picks_of T.looks c (once Z)) x (picks_range c (once Z)) here)))

      pub rest_asks : (U : ℕ → Bool) (ps : Parts Head (L → L)) (E : ℕ → List ℕ) → InRange E → Each (Asks (λ h j. OccursIn h j ps)) (rest_ways T U ps E)
      rest_asks U no_parts E low = ((λ j. tt), tt)
      rest_asks U (part p ps) E low =
          each_pairs (Asks (λ h j. Occurs h j p)) (Asks (λ h j. OccursIn h j ps)) (Asks (λ h j. OccursIn h j (part p ps))) (joined first_of)
          (λ x y a b. asks_joined (λ h j. OccursIn h j (part p ps)) first_of x y (asks_map (λ h j. Occurs h j p) (λ h j. OccursIn h j (part p ps)) (λ h j o. inl o) x a) (asks_map (λ h j. OccursIn h j ps) (λ h j. OccursIn h j (part p ps)) (λ h j o. inr o) y b))
          (cond (U 0) (plain tt ∷ []) (free_ways T p (E 0))) (rest_ways T (λ j. U (suc j)) ps (λ j. E (suc j)))
          (either (U 0) (free_asks p (E 0) (low 0))) (rest_asks (λ j. U (suc j)) ps (λ j. E (suc j)) (λ j. low (suc j)))
        where
          either : (b : Bool) → Each (Asks (λ h j. Occurs h j p)) (free_ways T p (E 0)) → Each (Asks (λ h j. Occurs h j p)) (cond b (plain tt ∷ []) (free_ways T p (E 0)))
          either true a = ((λ j. tt), tt)
          either false a = a

    -- the second part is this head, or one of the second
    abbrev pub Next : Head → Head → Type 0
    Next k h = (k ≡ h) ⊎ IsHead T h

    module _ (c : ℕ) (m : L → L) (ps : Parts Head (L → L)) (Os : ℕ → List ℕ → Head → List (WayOf L (Term Triple (L → L))))
        (src : (j : ℕ) (Z : List ℕ) (k : Head) → AreStates T.looks Z → Each (Good (λ h i. OccursAt h i j ps) (Next k) (AreLinear ps × AllLinear T)) (Os j Z k)) (E : ℕ → List ℕ) (low : InRange E) where
      -- good ways over a part
      abbrev StepGood : Head → WayOf L (Term Triple (L → L)) → Type 0
      StepGood k = Good (λ h i. OccursIn h i ps) (Next k) (AreLinear ps × AllLinear T)

      same_good : Each (StepGood identity) (over_term m (λ h j. Os j (E j) h) (copy c (size ps)))
      same_good =
          each_map (Good (Through ps (λ j. Uses j (copy c (size ps)))) (Next identity) ((AreLinear ps × AllLinear T) × AreLinear (kept 0 (size ps)))) (StepGood identity)
          (λ y a. good_map (Through ps (λ j. Uses j (copy c (size ps)))) (λ h i. OccursIn h i ps) (Next identity) (Next identity) ((AreLinear ps × AllLinear T) × AreLinear (kept 0 (size ps))) (AreLinear ps × AllLinear T)
          (λ h i t. occurs_at_in h i t.0 ps t.2) (λ h v. v) (λ l. (l, kept_linear (L → L) 0 (size ps))) y a)
          (over_term m (λ h j. Os j (E j) h) (copy c (size ps)))
          (over_good ps (Next identity) (AreLinear ps × AllLinear T) (λ l. l.0) m (λ h j. Os j (E j) h) (copy c (size ps))
          (λ h j o. subst (λ k. Each (Good (λ h i. OccursAt h i j ps) (Next identity) (AreLinear ps × AllLinear T)) (Os j (E j) k)) (kept_occurs (L → L) h 0 (size ps) j o) (src j (E j) identity (low j))))

      rule_good : (q : ℕ) (r : OutRule L) → Contains (out_rules T q) r → Each (StepGood (run q)) (rule_ways T c m Os ps E r)
      rule_good q r here =
          each_to_map (StepGood (run q)) (guarded (λ l. fires r.rule c (m l))) (pairs (joined second_of) rest over)
          (each_pairs (Asks (λ h i. OccursIn h i ps)) (StepGood (run q)) (StepGood (run q)) (joined second_of)
          (λ x y a b. (asks_joined (λ h i. OccursIn h i ps) second_of x y a b.0, b.1, b.2)) rest over
          (rest_asks (λ j. uses j r.term) ps more low') goods)
        where
          more : ℕ → List ℕ
          more j = E j ++ get_or r.rule.demands j []

          low' : InRange more
          low' = more_range E q r here low

          rest : List (WayOf L ⊤)
          rest = rest_ways T (λ j. uses j r.term) ps more

          over : List (WayOf L (Term Triple (L → L)))
          over = over_term m (λ h j. Os j (more j) h) r.term

          head : (h k : Head) → IsHead T h → Next h k → IsHead T k
          head h k is (inl e) = subst (IsHead T) e is
          head h k is (inr x) = x

          goods : Each (StepGood (run q)) over
          goods =
              each_map (Good (Through ps (λ j. Uses j r.term)) (IsHead T) ((AreLinear ps × AllLinear T) × IsLinear r.term)) (StepGood (run q))
              (λ y a. good_map (Through ps (λ j. Uses j r.term)) (λ h i. OccursIn h i ps) (IsHead T) (Next (run q)) ((AreLinear ps × AllLinear T) × IsLinear r.term) (AreLinear ps × AllLinear T)
              (λ h i t. occurs_at_in h i t.0 ps t.2) (λ h v. inr v) (λ l. (l, l.1 q r here)) y a) over
              (over_good ps (IsHead T) (AreLinear ps × AllLinear T) (λ l. l.0) m (λ h j. Os j (more j) h) r.term
              (λ h j o. each_map (Good (λ k i. OccursAt k i j ps) (Next h) (AreLinear ps × AllLinear T)) (Good (λ k i. OccursAt k i j ps) (IsHead T) (AreLinear ps × AllLinear T))
              (λ y a. good_map (λ k i. OccursAt k i j ps) (λ k i. OccursAt k i j ps) (Next h) (IsHead T) (AreLinear ps × AllLinear T) (AreLinear ps × AllLinear T) (λ k i x. x) (λ k x. head h k ((ok.rules q r here).heads h j o) x) (λ l. l) y a) (Os j (more j) h) (src j (more j) h (low' j))))

      pub step_good : (k : Head) → Each (StepGood k) (step_ways T c m Os ps E k)
      step_good identity = same_good
      step_good (run q) = each_flat (StepGood (run q)) (rule_ways T c m Os ps E) (out_rules T q) (λ r here. rule_good q r here)

    leaf_good : (h : Head) (j : ℕ) (Z : List ℕ) (k : Head) → AreStates T.looks Z → Each (Good (λ h' j'. (h ≡ h') × (j ≡ j')) (Next k) (⊤ × AllLinear T)) (leaf_ways h j k Z)
    leaf_good identity j Z k low = (
      (
        alone_in (λ i d. ((identity ≡ d.first) × (j ≡ i)) × AreStates T.looks d.all) j (record { first = identity; all = Z; second = None }) ((refl, refl), low),
        (λ d i o. (((ap (λ x. x.first) o.0, o.1), subst (λ x. AreStates T.looks x.all) o.0 tt), k, ap (λ x. x.second) (sym o.0), inl refl, subst AsksApart o.0 (λ a. refl))),
        λ l. tt,
      ),
      tt,
    )
    leaf_good (run q) j Z k low = (
      (
        (λ i. tt),
        (λ d i o. (((ap (λ x. x.first) o.0, o.1), subst (λ x. AreStates T.looks x.all) o.0 low), k, ap (λ x. x.second) (sym o.0), inl refl, subst AsksApart o.0 (λ a. absurd (run_same q a)))),
        λ l. tt,
      ),
      tt,
    )

    mutual
      pub gives_good : (p : Term Head (L → L)) (Z : List ℕ) (k : Head) → AreStates T.looks Z → Each (Good (λ h j. Occurs h j p) (Next k) (IsLinear p × AllLinear T)) (gives_ways T p Z k)
      gives_good (on h j) Z k low = leaf_good h j Z k low
      gives_good (build c m ps) Z k low =
          each_flat (Good (λ h j. OccursIn h j ps) (Next k) (AreLinear ps × AllLinear T)) (λ x. map (guarded (λ l. x.guard (m l))) (step_ways T c m (λ j Z' h. gives_at T j ps Z' h) ps x.wants k)) (picks_of T.looks c (once Z))
          (λ x here. each_to_map (Good (λ h j. OccursIn h j ps) (Next k) (AreLinear ps × AllLinear T)) (guarded (λ l. x.guard (m l))) (step_ways T c m (λ j Z' h. gives_at T j ps Z' h) ps x.wants k)
          (step_good c m ps (λ j Z' h. gives_at T j ps Z' h) (λ j Z' h low'. gives_at_good ps j Z' h low') x.wants (each_at (λ x. InRange x.wants) (picks_of T.looks c (once Z)) x (picks_range c (once Z)) here) k))

      pub gives_at_good : (ps : Parts Head (L → L)) (j : ℕ) (Z : List ℕ) (k : Head) → AreStates T.looks Z → Each (Good (λ h i. OccursAt h i j ps) (Next k) (AreLinear ps × AllLinear T)) (gives_at T j ps Z k)
      gives_at_good no_parts j Z k low = tt
      gives_at_good (part p ps) zero Z k low =
          each_map (Good (λ h j. Occurs h j p) (Next k) (IsLinear p × AllLinear T)) (Good (λ h i. OccursAt h i 0 (part p ps)) (Next k) (AreLinear (part p ps) × AllLinear T))
          (λ y a. good_map (λ h j. Occurs h j p) (λ h i. OccursAt h i 0 (part p ps)) (Next k) (Next k) (IsLinear p × AllLinear T) (AreLinear (part p ps) × AllLinear T) (λ h i x. x) (λ h x. x) (λ l. (l.0.0, l.1)) y a) (gives_ways T p Z k) (gives_good p Z k low)
      gives_at_good (part p ps) (suc j) Z k low =
          each_map (Good (λ h i. OccursAt h i j ps) (Next k) (AreLinear ps × AllLinear T)) (Good (λ h i. OccursAt h i (suc j) (part p ps)) (Next k) (AreLinear (part p ps) × AllLinear T))
          (λ y a. good_map (λ h i. OccursAt h i j ps) (λ h i. OccursAt h i (suc j) (part p ps)) (Next k) (Next k) (AreLinear ps × AllLinear T) (AreLinear (part p ps) × AllLinear T) (λ h i x. x) (λ h x. x) (λ l. (l.0.1, l.1)) y a) (gives_at T j ps Z k) (gives_at_good ps j Z k low)
