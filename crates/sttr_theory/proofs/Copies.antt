-- A state that runs a state of the second over the tree itself has the rules of that state.
use Rattle.std.proofs.Common.{cond, ℕ, zero, suc, ◌+◌, ◌≡◌, ◌⊎◌, ◌<◌, ◌≤◌, ◌&&◌, ◌==◌, Bool, true, false, List, [], ◌∷◌, map, get_or, length, Some, None, Contains, refl, sym, ap, subst, inl, inr, arith, append-nil}
use Rattle.std.proofs.lemmas.Bool.{cases_lt}
use Rattle.model_tree.specs.Tree.{Tree, node, Trees, no_trees, tree}
use Rattle.model_sta.specs.Automaton.{Rule}
use Rattle.model_sta.specs.Sets.{Each, width}
use Rattle.model_sta.specs.Operations.{Has}
use Rattle.model_sttr.specs.Terms.{Term, on, build, Parts, no_parts, part, Occurs, OccursIn, Uses, UsesIn, IsLinear, AreLinear, IsInstance, AreInstances, StandsFor, StandFor}
use Rattle.model_sttr.specs.Transducer.{Head, identity, run, OutRule, Sttr, out_rules, Gives, GivesAt, SttrFits}
use Rattle.model_sttr.specs.Guards.{MakesBy, MakesByOne}
use Rattle.model_sttr.proofs.Instances.{instance_at, occurs_uses}
use Rattle.model_sttr.proofs.Heads.{identity_eq}
use Rattle.sttr_theory.specs.Lists.{IsAt, Match}
use Rattle.sttr_theory.specs.Covers.{Never}
use Rattle.sttr_theory.specs.Guards.{MakesIn, AgreeMade, IsChainOver}
use Rattle.sttr_theory.specs.Triples.{Triple, Way, LookName, of_second, seconds, asked, At, Means, Middle, ThroughAt, Works, HasChildren, IsAsked, IsCalled, WayFits, AreWays}
use Rattle.sttr_theory.specs.Built.{kept, copying, IsNamed, IsOutRule, AreOutRules}
use Rattle.sttr_theory.specs.Copies.{on_same, IsOfRanks, as_calls, parts_as_calls, own_way, own_ways, IsCopiedRule, AreCopiedRules}
use Rattle.sttr_theory.proofs.Members.{here, in_single, of_flat, to_flat}
use Rattle.sttr_theory.proofs.Each.{each_map, each_to_map, each_of_map, each_get}
use Rattle.sttr_theory.proofs.Accept.{Fires, wants, AccEach, number_same, same_number, applies_out, applies_in}
use Rattle.sttr_theory.proofs.Runs.{copy}
use Rattle.sttr_theory.proofs.Complete.{identity_refl, copy_in, copy_out}
use Rattle.sttr_theory.proofs.Kept.{kept_uses, kept_used, kept_here}

-- ---- the first children

abbrev front : {L : Type 0} → ℕ → Trees L → Trees L
front n no_trees = no_trees
front zero (tree t ts) = no_trees
front (suc n) (tree t ts) = tree t (front n ts)

module _ {L : Type 0} where
  front_width : (n : ℕ) (ts : Trees L) → n ≤ width ts → width (front n ts) ≡ n
  front_width zero no_trees le = refl
  front_width (suc n) no_trees le = absurd (omega (arith, le))
  front_width zero (tree t ts) le = refl
  front_width (suc n) (tree t ts) le = ap suc (front_width n ts (omega (arith, le)))

  module _ (S : Sttr L) (h : Head) (v : Tree L) where
    front_in : (n j : ℕ) (ts : Trees L) → j < n → GivesAt S h j ts v → GivesAt S h j (front n ts) v
    front_in n j no_trees lt g = g
    front_in zero j (tree t ts) lt g = absurd (omega (arith, lt))
    front_in (suc n) zero (tree t ts) lt g = g
    front_in (suc n) (suc j) (tree t ts) lt g = front_in n j ts (omega (arith, lt)) g

    front_out : (n j : ℕ) (ts : Trees L) → GivesAt S h j (front n ts) v → GivesAt S h j ts v
    front_out n j no_trees g = g
    front_out zero j (tree t ts) g = absurd g
    front_out (suc n) zero (tree t ts) g = g
    front_out (suc n) (suc j) (tree t ts) g = front_out n j ts g

  gives_there : (S : Sttr L) (h : Head) (j : ℕ) (ts : Trees L) (v : Tree L) → GivesAt S h j ts v → j < width ts
  gives_there S h j no_trees v g = absurd g
  gives_there S h zero (tree t ts) v g = omega arith
  gives_there S h (suc j) (tree t ts) v g = let lt = gives_there S h j ts v g in omega (arith, lt)

  -- through a child as it is
  module _ (f g : Sttr L) (h : Head) (v : Tree L) where
    through_same : (j : ℕ) (ts : Trees L) → GivesAt g h j ts v → ThroughAt f g ts (on_same h) j v
    through_same j no_trees x = absurd x
    through_same zero (tree t ts) x = (t, identity_refl f t, tt, x)
    through_same (suc j) (tree t ts) x = through_same j ts x

    same_through : (j : ℕ) (ts : Trees L) → ThroughAt f g ts (on_same h) j v → GivesAt g h j ts v
    same_through j no_trees x = x.1
    same_through zero (tree t ts) (u, e, has, end) = subst (λ w. Gives g h w v) (sym (identity_eq f t u e)) end
    same_through (suc j) (tree t ts) x = same_through j ts x

  -- demands of the first children
  module _ (A : List (List (Rule L))) where
    acc_out : (n : ℕ) (E : ℕ → List ℕ) (ts : Trees L) → ((j : ℕ) → n ≤ j → E j ≡ []) → AccEach A E (front n ts) → n ≤ width ts → (j : ℕ) → Each (λ s. At (Has A s) j ts) (E j)
    acc_out n E no_trees beyond acc le j = subst (Each (λ s. At (Has A s) j no_trees)) (sym (beyond j (omega (arith, le)))) tt
    acc_out zero E (tree t ts) beyond acc le j = subst (Each (λ s. At (Has A s) j (tree t ts))) (sym (beyond j (omega arith))) tt
    acc_out (suc n) E (tree t ts) beyond acc le zero = acc.0
    acc_out (suc n) E (tree t ts) beyond acc le (suc j) = acc_out n (λ k. E (suc k)) ts (λ k le'. beyond (suc k) (omega (arith, le'))) acc.1 (omega (arith, le)) j

    acc_in : (n : ℕ) (E : ℕ → List ℕ) (ts : Trees L) → ((j : ℕ) → Each (λ s. At (Has A s) j ts) (E j)) → AccEach A E (front n ts)
    acc_in n E no_trees each = tt
    acc_in zero E (tree t ts) each = tt
    acc_in (suc n) E (tree t ts) each = (each 0, acc_in n (λ k. E (suc k)) ts (λ j. each (suc j)))

-- as many children as are kept
kept_low : {L : Type 0} (O : Head → ℕ → Tree L → Type 0) (l : L) (w i n : ℕ) (us : Trees L) → ((h : Head) (j : ℕ) (v : Tree L) → O h j v → j < w) → AreInstances O l (kept i n) us → i ≤ w → i + n ≤ w
kept_low O l w i zero us there a low = omega (arith, low)
kept_low O l w i (suc n) no_trees there a low = absurd a
kept_low O l w i (suc n) (tree u us) there a low =
    let lt = there identity i u a.0 in
    let later = kept_low O l w (suc i) n us there a.1 (omega (arith, lt)) in
    omega (arith, later)

kept_few : {L : Type 0} (O : Head → ℕ → Tree L → Type 0) (l : L) (w n : ℕ) (us : Trees L) → ((h : Head) (j : ℕ) (v : Tree L) → O h j v → j < w) → AreInstances O l (kept 0 n) us → n ≤ w
kept_few O l w n us there a = let low = kept_low O l w 0 n us there a (omega arith) in omega (arith, low)

-- ---- terms

module _ {L : Type 0} where
  mutual
    calls_occur : (d : Triple) (j : ℕ) (p : Term Head (L → L)) → Occurs d j (as_calls p) → (h : Head) × Occurs h j p × (on_same h ≡ d)
    calls_occur d j (on h i) o = (h, (refl, o.1), o.0)
    calls_occur d j (build c m ps) o = calls_occur_in d j ps o

    calls_occur_in : (d : Triple) (j : ℕ) (ps : Parts Head (L → L)) → OccursIn d j (parts_as_calls ps) → (h : Head) × OccursIn h j ps × (on_same h ≡ d)
    calls_occur_in d j no_parts o = absurd o
    calls_occur_in d j (part p ps) (inl o) = let (h, o', e) = calls_occur d j p o in (h, inl o', e)
    calls_occur_in d j (part p ps) (inr o) = let (h, o', e) = calls_occur_in d j ps o in (h, inr o', e)

  mutual
    calls_use : (j : ℕ) (p : Term Head (L → L)) → Uses j (as_calls p) → Uses j p
    calls_use j (on h i) u = u
    calls_use j (build c m ps) u = calls_use_in j ps u

    calls_use_in : (j : ℕ) (ps : Parts Head (L → L)) → UsesIn j (parts_as_calls ps) → UsesIn j ps
    calls_use_in j no_parts u = u
    calls_use_in j (part p ps) (inl u) = inl (calls_use j p u)
    calls_use_in j (part p ps) (inr u) = inr (calls_use_in j ps u)

  mutual
    calls_linear : (p : Term Head (L → L)) → IsLinear p → IsLinear (as_calls p)
    calls_linear (on h i) lin = tt
    calls_linear (build c m ps) lin = parts_calls_linear ps lin

    parts_calls_linear : (ps : Parts Head (L → L)) → AreLinear ps → AreLinear (parts_as_calls ps)
    parts_calls_linear no_parts lin = tt
    parts_calls_linear (part p ps) lin = (calls_linear p lin.0, parts_calls_linear ps lin.1, λ j a b. lin.2 j (calls_use j p a) (calls_use_in j ps b))

  mutual
    calls_make : (p : Term Head (L → L)) (n : L → L) → MakesBy (as_calls p) n → MakesBy p n
    calls_make (on h i) n o = o
    calls_make (build c m ps) n (inl e) = inl e
    calls_make (build c m ps) n (inr o) = inr (parts_calls_make ps n o)

    parts_calls_make : (ps : Parts Head (L → L)) (n : L → L) → MakesByOne (parts_as_calls ps) n → MakesByOne ps n
    parts_calls_make no_parts n o = o
    parts_calls_make (part p ps) n (inl o) = inl (calls_make p n o)
    parts_calls_make (part p ps) n (inr o) = inr (parts_calls_make ps n o)

  module _ (O : Head → ℕ → Tree L → Type 0) (P : Triple → ℕ → Tree L → Type 0) (l : L) where
    mutual
      calls_instance : ((h : Head) (j : ℕ) (v : Tree L) → O h j v → P (on_same h) j v) → (p : Term Head (L → L)) (w : Tree L) → IsInstance O l p w → IsInstance P l (as_calls p) w
      calls_instance f (on h j) w i = f h j w i
      calls_instance f (build c m ps) (node d k ws) i = (i.0, i.1, calls_instances f ps ws i.2)

      calls_instances : ((h : Head) (j : ℕ) (v : Tree L) → O h j v → P (on_same h) j v) → (ps : Parts Head (L → L)) (ws : Trees L) → AreInstances O l ps ws → AreInstances P l (parts_as_calls ps) ws
      calls_instances f no_parts no_trees i = tt
      calls_instances f no_parts (tree w ws) i = i
      calls_instances f (part p ps) no_trees i = i
      calls_instances f (part p ps) (tree w ws) i = (calls_instance f p w i.0, calls_instances f ps ws i.1)

    mutual
      instance_of_calls : ((h : Head) (j : ℕ) (v : Tree L) → P (on_same h) j v → O h j v) → (p : Term Head (L → L)) (w : Tree L) → IsInstance P l (as_calls p) w → IsInstance O l p w
      instance_of_calls f (on h j) w i = f h j w i
      instance_of_calls f (build c m ps) (node d k ws) i = (i.0, i.1, instances_of_calls f ps ws i.2)

      instances_of_calls : ((h : Head) (j : ℕ) (v : Tree L) → P (on_same h) j v → O h j v) → (ps : Parts Head (L → L)) (ws : Trees L) → AreInstances P l (parts_as_calls ps) ws → AreInstances O l ps ws
      instances_of_calls f no_parts no_trees i = tt
      instances_of_calls f no_parts (tree w ws) i = i
      instances_of_calls f (part p ps) no_trees i = i
      instances_of_calls f (part p ps) (tree w ws) i = (instance_of_calls f p w i.0, instances_of_calls f ps ws i.1)

  module _ (R : Head → Triple → Type 0) (D : L → Type 0) where
    mutual
      calls_stand : (p q : Term Head (L → L)) → StandsFor (λ k h. R k (on_same h)) D p q → StandsFor R D p (as_calls q)
      calls_stand (on k i) (on h j) s = s
      calls_stand (on k i) (build c m qs) s = s
      calls_stand (build c m ps) (on h j) s = s
      calls_stand (build c m ps) (build d n qs) s = (s.0, s.1, parts_calls_stand ps qs s.2)

      parts_calls_stand : (ps qs : Parts Head (L → L)) → StandFor (λ k h. R k (on_same h)) D ps qs → StandFor R D ps (parts_as_calls qs)
      parts_calls_stand no_parts no_parts s = tt
      parts_calls_stand no_parts (part q qs) s = s
      parts_calls_stand (part p ps) no_parts s = s
      parts_calls_stand (part p ps) (part q qs) s = (calls_stand p q s.0, parts_calls_stand ps qs s.1)

-- ---- the ways

beyond_end : {X : Type 0} (xss : List (List X)) (j : ℕ) → length xss ≤ j → get_or xss j [] ≡ []
beyond_end [] j le = refl
beyond_end (xs ∷ xss) zero le = absurd (omega (arith, le))
beyond_end (xs ∷ xss) (suc j) le = beyond_end xss j (omega (arith, le))

-- of a child that is kept the demands themselves are asked
asked_own : (Es : List (List ℕ)) (j : ℕ) → asked (get_or (map (λ Z. record { first = identity; all = Z; second = None } ∷ []) Es) j []) ≡ seconds (get_or Es j [])
asked_own [] j = refl
asked_own (Z ∷ Es) zero = append-nil (seconds Z)
asked_own (Z ∷ Es) (suc j) = asked_own Es j

module _ {L : Type 0} (c : ℕ) where
  own_case : (σ : OutRule L) (y : Way L) (b : Bool) → (σ.rule.constructor == c) ≡ b → Contains (cond b (own_way σ ∷ []) []) y → (σ.rule.constructor ≡ c) × (own_way σ ≡ y)
  own_case σ y true e at = (same_number σ.rule.constructor c e, in_single (own_way σ) y at)
  own_case σ y false e at = absurd (omega (arith, at.1))

  pub own_out : (σs : List (OutRule L)) (y : Way L) → Contains (own_ways c σs) y → (σ : OutRule L) × Contains σs σ × (σ.rule.constructor ≡ c) × (own_way σ ≡ y)
  own_out σs y at =
      let (σ, mine, at') = of_flat (λ σ. cond (σ.rule.constructor == c) (own_way σ ∷ []) []) σs y at in
      let (e, is) = own_case σ y (σ.rule.constructor == c) refl at' in
      (σ, mine, e, is)

  pub own_in : (σs : List (OutRule L)) (σ : OutRule L) → Contains σs σ → σ.rule.constructor ≡ c → Contains (own_ways c σs) (own_way σ)
  own_in σs σ mine e =
      to_flat (λ σ. cond (σ.rule.constructor == c) (own_way σ ∷ []) []) σs σ (own_way σ) mine
      (subst (λ b. Contains (cond b (own_way σ ∷ []) []) (own_way σ)) (sym (number_same σ.rule.constructor c e)) (here (own_way σ) []))

module _ {L : Type 0} (ranks : List ℕ) (D : L → Type 0) (f g : Sttr L) (q : ℕ) (ok : SttrFits g ranks) (of_ranks : (σ : OutRule L) → Contains (out_rules g q) σ → IsOfRanks ranks σ.rule) (c : ℕ) where
  abbrev Own : List (Way L)
  Own = own_ways c (out_rules g q)

  abbrev Rank : ℕ
  Rank = get_or ranks c 0

  no_demands : (σ : OutRule L) → Contains (out_rules g q) σ → σ.rule.constructor ≡ c → (j : ℕ) → Rank ≤ j → get_or σ.rule.demands j [] ≡ []
  no_demands σ at e j le =
      let few = (of_ranks σ at).demands in
      let few' : length σ.rule.demands ≤ Rank = subst (λ k. length σ.rule.demands ≤ get_or ranks k 0) e few in
      beyond_end σ.rule.demands j (omega (arith, few', le))

  kept_below : (j : ℕ) → Uses j (copy {L = L} c Rank) → j < Rank
  kept_below j u = let low = (kept_used (L → L) 0 Rank j u).1 in omega (arith, low)

  module _ (l : L) (ts : Trees L) (w : Tree L) where
    -- a node of kept children is one of the first children
    copied_node : (u : Tree L) → IsInstance (λ h j v. GivesAt f h j ts v) l (copy c Rank) u → (Rank ≤ width ts) × (node c l (front Rank ts) ≡ u)
    copied_node (node d m us) i =
        let le : Rank ≤ width ts = kept_few (λ h j v. GivesAt f h j ts v) l (width ts) Rank us (λ h j v x. gives_there f h j ts v x) i.2 in (
          le,
          copy_out f (λ h j v. GivesAt f h j (front Rank ts) v) l c (front Rank ts) (node d m us) (λ j v x. x)
              (subst (λ n. IsInstance (λ h j v. GivesAt f h j (front Rank ts) v) l (copy c n) (node d m us)) (sym (front_width Rank ts le))
              (instance_at (λ h j v. GivesAt f h j ts v) (λ h j v. GivesAt f h j (front Rank ts) v) l (copy c Rank) (λ h j v o x. front_in f h v Rank j ts (kept_below j (occurs_uses h j (copy {L = L} c Rank) o)) x) (node d m us) i)),
        )

    own_all : (u : Tree L) → Rank ≤ width ts → node c l (front Rank ts) ≡ u → Gives g (run q) u w → (y : Way L) × Contains Own y × Works f g l ts w y
    own_all u le e gives =
        let (σ, at, applies, inst) = subst (λ x. Gives g (run q) x w) (sym e) gives in
        let (fire, acc) = applies_out g.looks c l (front Rank ts) σ.rule applies in (
          own_way σ,
          own_in c (out_rules g q) σ at fire.0,
          (
            fire.1,
            (λ j. subst (Each (λ n. At (Means f g n) j ts)) (sym (asked_own σ.rule.demands j))
                (each_to_map (λ n. At (Means f g n) j ts) of_second (get_or σ.rule.demands j []) (acc_out g.looks Rank (wants σ.rule) ts (no_demands σ at fire.0) acc le j))),
            calls_instance (λ h j v. GivesAt g h j (front Rank ts) v) (λ x j v. ThroughAt f g ts x j v) l (λ h j v x. through_same f g h v j ts (front_out g h v Rank j ts x)) σ.term w inst,
          ),
        )

    own_only : Rank ≤ width ts → (y : Way L) → Contains Own y → Works f g l ts w y → Middle f g l ts (copy c Rank) (on_same (run q)) w
    own_only le y mine works =
        let (σ, at, same, e) = own_out c (out_rules g q) y mine in
        let (g', met, yields) = subst (Works f g l ts w) (sym e) works in
        let fire : Fires σ.rule c l = (same, g') in
        let acc = acc_in g.looks Rank (wants σ.rule) ts (λ j. each_of_map (λ n. At (Means f g n) j ts) of_second (get_or σ.rule.demands j []) (subst (Each (λ n. At (Means f g n) j ts)) (asked_own σ.rule.demands j) (met j))) in
        let inst = instance_of_calls (λ h j v. GivesAt g h j ts v) (λ x j v. ThroughAt f g ts x j v) l (λ h j v x. same_through f g h v j ts x) σ.term w yields in
        let inst' = instance_at (λ h j v. GivesAt g h j ts v) (λ h j v. GivesAt g h j (front Rank ts) v) l σ.term (λ h j v o x. front_in g h v Rank j ts (below σ at fire.0 j (occurs_uses h j σ.term o)) x) w inst in (
          node c l (front Rank ts),
          subst (λ n. IsInstance (λ h j v. GivesAt f h j ts v) l (copy c n) (node c l (front Rank ts))) (front_width Rank ts le) (copy_in f (λ h j v. GivesAt f h j ts v) l c (front Rank ts) (node c l (front Rank ts)) (λ j v x. front_out f identity v Rank j ts x) refl),
          tt,
          (σ, at, applies_in g.looks c l (front Rank ts) σ.rule fire acc, inst'),
        )
      where
        below : (σ : OutRule L) → Contains (out_rules g q) σ → σ.rule.constructor ≡ c → (j : ℕ) → Uses j σ.term → j < Rank
        below σ at e j u = subst (λ k. j < get_or ranks k 0) e ((ok.rules q σ at).children j u)

  -- the rank is at most as many as there are children, where these are used
  all_kept : (ts : Trees L) → HasChildren {L = L} ts (copy c Rank) → Rank ≤ width ts
  all_kept ts there = by Rank (λ j lt. there j (kept_uses (L → L) 0 Rank j (omega arith) (omega (arith, lt))))
    where
      by : (n : ℕ) → ((j : ℕ) → j < n → j < width ts) → n ≤ width ts
      by zero f = omega arith
      by (suc n) f = let lt = f n (omega arith) in omega (arith, lt)

  -- demands are of children that are kept, and of states that there are
  own_fits : (y : Way L) → Contains Own y → WayFits f g (copy c Rank) (on_same (run q)) y
  own_fits y mine = let (σ, at, same, e) = own_out c (out_rules g q) y mine in subst (WayFits f g (copy c Rank) (on_same (run q))) e (record { demands = λ j. asks σ at same j; term = (some_none, (λ d j o. called σ at same d j o), λ lp lg. calls_linear σ.term (lg q σ at)) })
    where
      some_none : Some (run q) ≡ None → ⊥
      some_none e = cc

      at_child : (j : ℕ) → j < Rank → OccursIn identity j (kept {M = L → L} 0 Rank)
      at_child j lt = kept_here (L → L) 0 Rank j (omega arith) (omega (arith, lt))

      few : (σ : OutRule L) → Contains (out_rules g q) σ → σ.rule.constructor ≡ c → (j : ℕ) → (j < Rank) ⊎ (Rank ≤ j) → Each (λ s. (OccursIn identity j (kept {M = L → L} 0 Rank)) × (s < length g.looks)) (get_or σ.rule.demands j [])
      few σ at same j (inr le) = subst (Each (λ s. (OccursIn identity j (kept {M = L → L} 0 Rank)) × (s < length g.looks))) (sym (no_demands σ at same j le)) tt
      few σ at same j (inl lt) = each_map (λ s. s < length g.looks) (λ s. (OccursIn identity j (kept {M = L → L} 0 Rank)) × (s < length g.looks)) (λ s low. (at_child j lt, low)) (get_or σ.rule.demands j []) (each_get (λ s. s < length g.looks) σ.rule.demands j (ok.rules q σ at).demands)

      asks : (σ : OutRule L) → Contains (out_rules g q) σ → σ.rule.constructor ≡ c → (j : ℕ) → Each (λ n. IsAsked f g (copy c Rank) n j) (asked (get_or (own_way σ).demands j []))
      asks σ at same j =
          subst (Each (λ n. IsAsked f g (copy c Rank) n j)) (sym (asked_own σ.rule.demands j))
          (each_to_map (λ n. IsAsked f g (copy c Rank) n j) of_second (get_or σ.rule.demands j []) (few σ at same j (cases_lt j Rank)))

      called : (σ : OutRule L) → Contains (out_rules g q) σ → σ.rule.constructor ≡ c → (d : Triple) (j : ℕ) → Occurs d j (as_calls σ.term) → IsCalled f g (copy c Rank) (on_same (run q)) d j
      called σ at same d j o =
          let (h, o', e) = calls_occur d j σ.term o in
          let lt : j < Rank = subst (λ k. j < get_or ranks k 0) same ((ok.rules q σ at).children j (occurs_uses h j σ.term o')) in
          subst (λ d. IsCalled f g (copy c Rank) (on_same (run q)) d j) e ((at_child j lt, tt), h, refl, inr ((ok.rules q σ at).heads h j o'), λ a. refl)

  own_steady : (y : Way L) → Contains Own y → (l m : L) → AgreeMade g (copy {L = L} c Rank) l m → y.guard l ≡ y.guard m
  own_steady y mine l m agree = let (σ, at, same, e) = own_out c (out_rules g q) y mine in subst (λ z. z.guard l ≡ z.guard m) e ((agree (λ n. n) (inl refl)).rules q σ at)

  own_maps : (y : Way L) → Contains Own y → (n : L → L) → MakesIn y.term n → IsChainOver D g (copy {L = L} c Rank) (Some (run q)) n
  own_maps y mine n o =
      let (σ, at, same, e) = own_out c (out_rules g q) y mine in
      inl ((λ l. l), inl refl, n, (q, σ, at, calls_make σ.term n (subst (λ z. MakesIn z.term n) (sym e) o)), λ l d. refl)

  -- the ways of the second's rules over a copied node
  pub own_are_ways : AreWays f g D (copy c Rank) (on_same (run q)) Own
  own_are_ways = record {
    all = λ l d ts w m. let (u, i, has, end) = m in let (le, e) = copied_node l ts w u i in own_all l ts w u le e end;
    only = λ l d ts w there can y mine works. own_only l ts w (all_kept ts there) y mine works;
    fit = own_fits;
    guards = λ y mine l m dl dm agree. own_steady y mine l m agree;
    maps = own_maps;
  }

module _ {L : Type 0} (ranks : List ℕ) (D : L → Type 0) (f g : Sttr L) (q : ℕ) (ok : SttrFits g ranks) (of_ranks : (σ : OutRule L) → Contains (out_rules g q) σ → IsOfRanks ranks σ.rule) (looks : List LookName) (names : List Triple) (rs : List (OutRule L)) where
  copied_made : (r σ : OutRule L) → IsCopiedRule ranks D f g looks names r σ → IsOutRule ranks D f g looks names r (copying σ.rule.constructor (get_or ranks σ.rule.constructor 0)) (own_way σ)
  copied_made r σ is = (
    record {
      same_constructor = is.0.same_constructor;
      same_guard = is.0.same_guard;
      same_demands = λ j. subst (Match (IsAt looks) (get_or r.rule.demands j [])) (sym (asked_own σ.rule.demands j)) (is.0.same_demands j);
    },
    calls_stand (IsNamed ranks D f g names) D r.term σ.term is.1,
  )

  made_of : (c : ℕ) (σ : OutRule L) → σ.rule.constructor ≡ c → ((r : OutRule L) × Contains rs r × IsCopiedRule ranks D f g looks names r σ) ⊎ Never D σ.rule.guard
      → ((r : OutRule L) × Contains rs r × IsOutRule ranks D f g looks names r (copying c (get_or ranks c 0)) (own_way σ)) ⊎ Never D σ.rule.guard
  made_of c σ e (inl (r, at, is)) = inl (r, at, subst (λ k. IsOutRule ranks D f g looks names r (copying k (get_or ranks k 0)) (own_way σ)) e (copied_made r σ is))
  made_of c σ e (inr never) = inr never

  all_of : AreCopiedRules ranks D f g looks names rs (out_rules g q) → (c : ℕ) (y : Way L) → Contains (own_ways c (out_rules g q)) y → ((r : OutRule L) × Contains rs r × IsOutRule ranks D f g looks names r (copying c (get_or ranks c 0)) y) ⊎ Never D y.guard
  all_of are c y mine =
      let (σ, at, same, e) = own_out c (out_rules g q) y mine in
      subst (λ z. ((r : OutRule L) × Contains rs r × IsOutRule ranks D f g looks names r (copying c (get_or ranks c 0)) z) ⊎ Never D z.guard) e (made_of c σ same (are.all σ at))

  -- copied rules are the rules for the identity and the second's state
  pub copied_are_rules : AreCopiedRules ranks D f g looks names rs (out_rules g q) → AreOutRules ranks D f g looks names rs (on_same (run q))
  copied_are_rules are = record {
    only = λ r c. let (σ, at, is) = are.only r c in (
      copying σ.rule.constructor (get_or ranks σ.rule.constructor 0),
      (σ.rule.constructor, (of_ranks σ at).constructor, refl),
      own_ways σ.rule.constructor (out_rules g q),
      own_are_ways ranks D f g q ok of_ranks σ.rule.constructor,
      own_way σ,
      own_in σ.rule.constructor (out_rules g q) σ at refl,
      copied_made r σ is,
    );
    all = λ ρ rule. let (c, lt, e) = rule in subst (λ ρ. (ys : List (Way L)) × AreWays f g D ρ.term (on_same (run q)) ys × ((y : Way L) → Contains ys y → ((r : OutRule L) × Contains rs r × IsOutRule ranks D f g looks names r ρ y) ⊎ Never D (λ l. ρ.rule.guard l && y.guard l))) (sym e)
        (own_ways c (out_rules g q), own_are_ways ranks D f g q ok of_ranks c, λ y mine. all_of are c y mine);
  }
