-- Guards and maps of the ways of the lists.
use Rattle.std.specs.Prelude.{⊤}
use Rattle.std.proofs.Common.{ℕ, zero, suc, ◌≡◌, ◌⊎◌, ◌&&◌, ◌==◌, cond, Bool, true, false, List, [], ◌∷◌, ◌++◌, map, get_or, Some, refl, ap, subst, inl, inr}
use Rattle.model_sta.specs.Automaton.{Rule, rules_of}
use Rattle.model_sta.specs.Sets.{Each}
use Rattle.model_sta.specs.Operations.{AgreeIn}
use Rattle.model_sttr.specs.Terms.{Term, on, build, Parts, no_parts, part, Occurs, OccursIn}
use Rattle.model_sttr.specs.Transducer.{Head, identity, run, OutRule, Sttr, out_rules, GivesSame}
use Rattle.model_sttr.specs.Guards.{MakesBy, MakesByOne, AgreeOn, IsMapOf, MakesAlike}
use Rattle.sttr_theory.specs.Lists.{pairs, once}
use Rattle.sttr_theory.specs.Guards.{AgreeMade, IsLeft, IsChainOver}
use Rattle.sttr_theory.specs.Triples.{Triple}
use Rattle.sttr_theory.specs.Ways.{WayOf, plain, leaf_ways, joined, guarded, with_term, first_of, second_of, pick, picks_of, fires, size, uses, over_term, over_parts, free_ways, rest_ways, rule_ways, step_ways, gives_ways, gives_at}
use Rattle.sttr_theory.proofs.Each.{each_map, each_to_map, each_at}
use Rattle.sttr_theory.proofs.Runs.{copy}
use Rattle.sttr_theory.proofs.Kept.{kept_makes}
use Rattle.sttr_theory.proofs.Fitting.{each_flat, each_pairs}

module _ {L : Type 0} (T : Sttr L) where
  -- the guard is the same at the two labels
  abbrev pub Steady : {X : Type 0} → L → L → WayOf L X → Type 0
  Steady l l' y = y.guard l ≡ y.guard l'

  steady_joined : {X Y Z : Type 0} (l l' : L) (f : X → Y → Z) (x : WayOf L X) (y : WayOf L Y) → Steady l l' x → Steady l l' y → Steady l l' (joined f x y)
  steady_joined l l' f x y a b = λ i. a i && b i

  fires_same : (r : Rule L) (c : ℕ) (l l' : L) → r.guard l ≡ r.guard l' → fires r c l ≡ fires r c l'
  fires_same r c l l' e = ap (λ g. (r.constructor == c) && g) e

  picks_same : (l l' : L) → AgreeIn T.looks l l' → (c : ℕ) (Z : List ℕ) → Each (λ x. x.guard l ≡ x.guard l') (picks_of T.looks c Z)
  picks_same l l' agree c [] = (refl, tt)
  picks_same l l' agree c (s ∷ Z) =
      each_flat (λ x. x.guard l ≡ x.guard l') (λ r. map (pick c r) (picks_of T.looks c Z)) (rules_of T.looks s)
      (λ r here. each_to_map (λ x. x.guard l ≡ x.guard l') (pick c r) (picks_of T.looks c Z)
      (each_map (λ x. x.guard l ≡ x.guard l') (λ x. (fires r c l && x.guard l) ≡ (fires r c l' && x.guard l')) (λ x e i. fires_same r c l l' (agree s r here) i && e i) (picks_of T.looks c Z) (picks_same l l' agree c Z)))

  module _ (l l' : L) where
    abbrev AgreeParts : Parts Head (L → L) → Type 0
    AgreeParts ps = (n : L → L) → MakesByOne ps n → AgreeOn T (n l) (n l')

    -- behind a guard that is the same
    steady_guarded : {X : Type 0} (g : L → Bool) → g l ≡ g l' → (ys : List (WayOf L X)) → Each (Steady l l') ys → Each (Steady l l') (map (guarded g) ys)
    steady_guarded g e ys a = each_to_map (Steady l l') (guarded g) ys (each_map (Steady l l') (λ y. (g l && y.guard l) ≡ (g l' && y.guard l')) (λ y s i. e i && s i) ys a)

    mutual
      pub free_steady : (p : Term Head (L → L)) (Z : List ℕ) → AgreeMade T p l l' → Each (Steady l l') (free_ways T p Z)
      free_steady (on h j) Z agree = (refl, tt)
      free_steady (build c m ps) Z agree =
          each_flat (Steady l l') (λ x. map (guarded (λ l. x.guard (m l))) (rest_ways T (λ j. false) ps x.wants)) (picks_of T.looks c (once Z))
          (λ x here. steady_guarded (λ l. x.guard (m l)) (each_at (λ x. x.guard (m l) ≡ x.guard (m l')) (picks_of T.looks c (once Z)) x (picks_same (m l) (m l') (agree m (inl refl)).looks c (once Z)) here)
          (rest_ways T (λ j. false) ps x.wants) (rest_steady (λ j. false) ps x.wants (λ n o. agree n (inr o))))

      pub rest_steady : (U : ℕ → Bool) (ps : Parts Head (L → L)) (E : ℕ → List ℕ) → AgreeParts ps → Each (Steady l l') (rest_ways T U ps E)
      rest_steady U no_parts E agree = (refl, tt)
      rest_steady U (part p ps) E agree =
          each_pairs (Steady l l') (Steady l l') (Steady l l') (joined first_of) (λ x y a b. steady_joined l l' first_of x y a b)
          (cond (U 0) (plain tt ∷ []) (free_ways T p (E 0))) (rest_ways T (λ j. U (suc j)) ps (λ j. E (suc j)))
          (either (U 0) (free_steady p (E 0) (λ n o. agree n (inl o)))) (rest_steady (λ j. U (suc j)) ps (λ j. E (suc j)) (λ n o. agree n (inr o)))
        where
          either : (b : Bool) → Each (Steady l l') (free_ways T p (E 0)) → Each (Steady l l') (cond b (plain tt ∷ []) (free_ways T p (E 0)))
          either true a = (refl, tt)
          either false a = a

    module _ (m : L → L) (Os : Head → ℕ → List (WayOf L (Term Triple (L → L)))) (each : (h : Head) (j : ℕ) → Each (Steady l l') (Os h j)) where
      mutual
        over_steady : (q : Term Head (L → L)) → Each (Steady l l') (over_term m Os q)
        over_steady (on h j) = each h j
        over_steady (build c n qs) = each_to_map (Steady l l') (with_term (build c (λ l. n (m l)))) (over_parts m Os qs) (overs_steady qs)

        overs_steady : (qs : Parts Head (L → L)) → Each (Steady l l') (over_parts m Os qs)
        overs_steady no_parts = (refl, tt)
        overs_steady (part q qs) = each_pairs (Steady l l') (Steady l l') (Steady l l') (joined part) (λ x y a b. steady_joined l l' part x y a b) (over_term m Os q) (over_parts m Os qs) (over_steady q) (overs_steady qs)

    module _ (c : ℕ) (m : L → L) (agree : AgreeOn T (m l) (m l')) (ps : Parts Head (L → L)) (parts : AgreeParts ps) (Os : ℕ → List ℕ → Head → List (WayOf L (Term Triple (L → L))))
        (each : (j : ℕ) (Z : List ℕ) (h : Head) → Each (Steady l l') (Os j Z h)) (E : ℕ → List ℕ) where
      step_steady : (k : Head) → Each (Steady l l') (step_ways T c m Os ps E k)
      step_steady identity = over_steady m (λ h j. Os j (E j) h) (λ h j. each j (E j) h) (copy c (size ps))
      step_steady (run q) =
          each_flat (Steady l l') (rule_ways T c m Os ps E) (out_rules T q)
          (λ r here. steady_guarded (λ l. fires r.rule c (m l)) (fires_same r.rule c (m l) (m l') (agree.rules q r here))
          (pairs (joined second_of) (rest_ways T (λ j. uses j r.term) ps (λ j. E j ++ get_or r.rule.demands j [])) (over_term m (λ h j. Os j (E j ++ get_or r.rule.demands j []) h) r.term))
          (each_pairs (Steady l l') (Steady l l') (Steady l l') (joined second_of) (λ x y a b. steady_joined l l' second_of x y a b)
          (rest_ways T (λ j. uses j r.term) ps (λ j. E j ++ get_or r.rule.demands j [])) (over_term m (λ h j. Os j (E j ++ get_or r.rule.demands j []) h) r.term)
          (rest_steady (λ j. uses j r.term) ps (λ j. E j ++ get_or r.rule.demands j []) parts)
          (over_steady m (λ h j. Os j (E j ++ get_or r.rule.demands j []) h) (λ h j. each j (E j ++ get_or r.rule.demands j []) h) r.term)))

    leaf_steady : (h : Head) (j : ℕ) (k : Head) (Z : List ℕ) → Each (Steady l l') (leaf_ways h j k Z)
    leaf_steady identity j k Z = (refl, tt)
    leaf_steady (run q) j k Z = (refl, tt)

    mutual
      pub gives_steady : (p : Term Head (L → L)) (Z : List ℕ) (k : Head) → AgreeMade T p l l' → Each (Steady l l') (gives_ways T p Z k)
      gives_steady (on h j) Z k agree = leaf_steady h j k Z
      gives_steady (build c m ps) Z k agree =
          each_flat (Steady l l') (λ x. map (guarded (λ l. x.guard (m l))) (step_ways T c m (λ j Z' h. gives_at T j ps Z' h) ps x.wants k)) (picks_of T.looks c (once Z))
          (λ x here. steady_guarded (λ l. x.guard (m l)) (each_at (λ x. x.guard (m l) ≡ x.guard (m l')) (picks_of T.looks c (once Z)) x (picks_same (m l) (m l') (agree m (inl refl)).looks c (once Z)) here)
          (step_ways T c m (λ j Z' h. gives_at T j ps Z' h) ps x.wants k)
          (step_steady c m (agree m (inl refl)) ps (λ n o. agree n (inr o)) (λ j Z' h. gives_at T j ps Z' h) (λ j Z' h. gives_at_steady ps j Z' h (λ n o. agree n (inr o))) x.wants k))

      pub gives_at_steady : (ps : Parts Head (L → L)) (j : ℕ) (Z : List ℕ) (k : Head) → AgreeParts ps → Each (Steady l l') (gives_at T j ps Z k)
      gives_at_steady no_parts j Z k agree = tt
      gives_at_steady (part p ps) zero Z k agree = gives_steady p Z k (λ n o. agree n (inl o))
      gives_at_steady (part p ps) (suc j) Z k agree = gives_at_steady ps j Z k (λ n o. agree n (inr o))

  -- ---- maps

  module _ (D : L → Type 0) where
    -- each map of the way's term is of P
    abbrev pub MapsIn : ((L → L) → Type 0) → WayOf L (Term Triple (L → L)) → Type 0
    MapsIn P y = (n : L → L) → MakesBy y.term n → P n

    abbrev pub MapsInParts : ((L → L) → Type 0) → WayOf L (Parts Triple (L → L)) → Type 0
    MapsInParts P y = (n : L → L) → MakesByOne y.term n → P n

    module _ (P : (L → L) → Type 0) (m : L → L) (Os : Head → ℕ → List (WayOf L (Term Triple (L → L)))) where
      mutual
        over_maps : (q : Term Head (L → L)) → ((h : Head) (j : ℕ) → Occurs h j q → Each (MapsIn P) (Os h j)) → ((k : L → L) → MakesBy q k → P (λ l. k (m l))) → Each (MapsIn P) (over_term m Os q)
        over_maps (on h j) each own = each h j (refl, refl)
        over_maps (build c k qs) each own =
            each_to_map (MapsIn P) (with_term (build c (λ l. k (m l)))) (over_parts m Os qs)
            (each_map (MapsInParts P) (λ y. MapsIn P (with_term (build c (λ l. k (m l))) y)) (λ y a n o. at_node y a n o) (over_parts m Os qs) (overs_maps qs each (λ k' o. own k' (inr o))))
          where
            at_node : (y : WayOf L (Parts Triple (L → L))) → MapsInParts P y → (n : L → L) → ((λ l. k (m l)) ≡ n) ⊎ MakesByOne y.term n → P n
            at_node y a n (inl e) = subst P e (own k (inl refl))
            at_node y a n (inr o) = a n o

        overs_maps : (qs : Parts Head (L → L)) → ((h : Head) (j : ℕ) → OccursIn h j qs → Each (MapsIn P) (Os h j)) → ((k : L → L) → MakesByOne qs k → P (λ l. k (m l))) → Each (MapsInParts P) (over_parts m Os qs)
        overs_maps no_parts each own = ((λ n o. absurd o), tt)
        overs_maps (part q qs) each own =
            each_pairs (MapsIn P) (MapsInParts P) (MapsInParts P) (joined part) (λ y z a b n o. at_pair y z a b n o) (over_term m Os q) (over_parts m Os qs) (over_maps q (λ h j o. each h j (inl o)) (λ k o. own k (inl o))) (overs_maps qs (λ h j o. each h j (inr o)) (λ k o. own k (inr o)))
          where
            at_pair : (y : WayOf L (Term Triple (L → L))) (z : WayOf L (Parts Triple (L → L))) → MapsIn P y → MapsInParts P z → (n : L → L) → MakesBy y.term n ⊎ MakesByOne z.term n → P n
            at_pair y z a b n (inl o) = a n o
            at_pair y z a b n (inr o) = b n o

    abbrev ChainOver : Term Head (L → L) → Head → (L → L) → Type 0
    ChainOver p k n = IsChainOver D T p (Some k) n

    -- a map of the parts and then one of the second, or one that is left as it is, where the second may keep trees
    abbrev ChainOverParts : Parts Head (L → L) → Head → (L → L) → Type 0
    ChainOverParts ps k n =
        ((m : L → L) × MakesByOne ps m × (k' : L → L) × IsMapOf T k' × MakesAlike D n (λ l. k' (m l)))
        ⊎ ((m : L → L) × ((k ≡ identity) ⊎ GivesSame T) × MakesByOne ps m × MakesAlike D n m)

    same_some : (k : Head) → Some k ≡ Some identity → k ≡ identity
    same_some k e = cc

    -- maps of a part are maps of the parts
    to_parts : (k : Head) (p : Term Head (L → L)) (ps : Parts Head (L → L)) (n : L → L) → ChainOver p k n → ChainOverParts (part p ps) k n
    to_parts k p ps n (inl (m, o, k', is, e)) = inl (m, inl o, k', is, e)
    to_parts k p ps n (inr (m, inl (keeps, o), e)) = inr (m, inl (same_some k keeps), inl o, e)
    to_parts k (on h j) ps n (inr (m, inr (same, o), e)) = absurd o
    to_parts k (build c m' qs) ps n (inr (m, inr (same, o), e)) = inr (m, inr same, inl (inr o), e)

    later_parts : (k : Head) (p : Term Head (L → L)) (ps : Parts Head (L → L)) (n : L → L) → ChainOverParts ps k n → ChainOverParts (part p ps) k n
    later_parts k p ps n (inl (m, o, k', is, e)) = inl (m, inr o, k', is, e)
    later_parts k p ps n (inr (m, keeps, o, e)) = inr (m, keeps, inr o, e)

    -- what the head h leaves of the parts is below a node for the head k, where h is k or stands in a rule of the second
    below_node : (h k : Head) → (h ≡ identity → (k ≡ identity) ⊎ GivesSame T) → (c : ℕ) (m : L → L) (ps : Parts Head (L → L)) (n : L → L) → ChainOverParts ps h n → ChainOver (build c m ps) k n
    below_node h k from c m ps n (inl (m', o, k', is, e)) = inl (m', inr o, k', is, e)
    below_node h k from c m ps n (inr (m', keeps, o, e)) = inr (m', left (either from keeps), e)
      where
        either : (h ≡ identity → (k ≡ identity) ⊎ GivesSame T) → (h ≡ identity) ⊎ GivesSame T → (k ≡ identity) ⊎ GivesSame T
        either f (inl e) = f e
        either f (inr same) = inr same

        left : (k ≡ identity) ⊎ GivesSame T → IsLeft D T (build c m ps) (Some k) m'
        left (inl e) = inl (ap Some e, inr o)
        left (inr same) = inr (same, o)

    module _ (c : ℕ) (m : L → L) (ps : Parts Head (L → L)) (Os : ℕ → List ℕ → Head → List (WayOf L (Term Triple (L → L)))) (each : (j : ℕ) (Z : List ℕ) (h : Head) → Each (MapsIn (ChainOverParts ps h)) (Os j Z h)) (E : ℕ → List ℕ) where
      from_parts : (h k : Head) → (h ≡ identity → (k ≡ identity) ⊎ GivesSame T) → (ys : List (WayOf L (Term Triple (L → L)))) → Each (MapsIn (ChainOverParts ps h)) ys → Each (MapsIn (ChainOver (build c m ps) k)) ys
      from_parts h k from ys a = each_map (MapsIn (ChainOverParts ps h)) (MapsIn (ChainOver (build c m ps) k)) (λ y b n o. below_node h k from c m ps n (b n o)) ys a

      copied_map : (k : L → L) → MakesBy (copy {L = L} c (size ps)) k → ChainOver (build c m ps) identity (λ l. k (m l))
      copied_map k (inl e) = inr (m, inl (refl, inl refl), λ l d. subst (λ n. n (m l) ≡ m l) e refl)
      copied_map k (inr o) = absurd (kept_makes (L → L) 0 (size ps) k o)

      step_maps : (k : Head) → Each (MapsIn (ChainOver (build c m ps) k)) (step_ways T c m Os ps E k)
      step_maps identity = over_maps (ChainOver (build c m ps) identity) m (λ h j. Os j (E j) h) (copy c (size ps)) (λ h j o. from_parts h identity (λ e. inl refl) (Os j (E j) h) (each j (E j) h)) copied_map
      step_maps (run q) =
          each_flat (MapsIn (ChainOver (build c m ps) (run q))) (rule_ways T c m Os ps E) (out_rules T q)
          (λ r here. each_to_map (MapsIn (ChainOver (build c m ps) (run q))) (guarded (λ l. fires r.rule c (m l))) (pairs (joined second_of) (rest r) (over r))
          (each_pairs (λ x. ⊤) (MapsIn (ChainOver (build c m ps) (run q))) (MapsIn (ChainOver (build c m ps) (run q))) (joined second_of) (λ x y a b. b) (rest r) (over r) (all (rest r))
          (over_maps (ChainOver (build c m ps) (run q)) m (λ h j. Os j (more r j) h) r.term
          (λ h j o. from_parts h (run q) (λ e. inr (q, r, here, j, subst (λ i. Occurs i j r.term) e o)) (Os j (more r j) h) (each j (more r j) h))
          (λ k o. inl (m, inl refl, k, (q, r, here, o), λ l d. refl)))))
        where
          more : OutRule L → ℕ → List ℕ
          more r j = E j ++ get_or r.rule.demands j []

          rest : OutRule L → List (WayOf L ⊤)
          rest r = rest_ways T (λ j. uses j r.term) ps (more r)

          over : OutRule L → List (WayOf L (Term Triple (L → L)))
          over r = over_term m (λ h j. Os j (more r j) h) r.term

          all : (xs : List (WayOf L ⊤)) → Each (λ x. ⊤) xs
          all [] = tt
          all (x ∷ xs) = (tt, all xs)

    leaf_maps : (P : (L → L) → Type 0) (h : Head) (j : ℕ) (k : Head) (Z : List ℕ) → Each (MapsIn P) (leaf_ways h j k Z)
    leaf_maps P identity j k Z = ((λ n o. absurd o), tt)
    leaf_maps P (run q) j k Z = ((λ n o. absurd o), tt)

    mutual
      pub gives_maps : (p : Term Head (L → L)) (Z : List ℕ) (k : Head) → Each (MapsIn (ChainOver p k)) (gives_ways T p Z k)
      gives_maps (on h j) Z k = leaf_maps (ChainOver (on h j) k) h j k Z
      gives_maps (build c m ps) Z k =
          each_flat (MapsIn (ChainOver (build c m ps) k)) (λ x. map (guarded (λ l. x.guard (m l))) (step_ways T c m (λ j Z' h. gives_at T j ps Z' h) ps x.wants k)) (picks_of T.looks c (once Z))
          (λ x here. each_to_map (MapsIn (ChainOver (build c m ps) k)) (guarded (λ l. x.guard (m l))) (step_ways T c m (λ j Z' h. gives_at T j ps Z' h) ps x.wants k)
          (step_maps c m ps (λ j Z' h. gives_at T j ps Z' h) (λ j Z' h. gives_at_maps ps j Z' h) x.wants k))

      pub gives_at_maps : (ps : Parts Head (L → L)) (j : ℕ) (Z : List ℕ) (k : Head) → Each (MapsIn (ChainOverParts ps k)) (gives_at T j ps Z k)
      gives_at_maps no_parts j Z k = tt
      gives_at_maps (part p ps) zero Z k = each_map (MapsIn (ChainOver p k)) (MapsIn (ChainOverParts (part p ps) k)) (λ y a n o. to_parts k p ps n (a n o)) (gives_ways T p Z k) (gives_maps p Z k)
      gives_at_maps (part p ps) (suc j) Z k = each_map (MapsIn (ChainOverParts ps k)) (MapsIn (ChainOverParts (part p ps) k)) (λ y a n o. later_parts k p ps n (a n o)) (gives_at T j ps Z k) (gives_at_maps ps j Z k)
