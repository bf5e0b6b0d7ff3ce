-- Names only grow while something is built, and what was said by them stays true.
use Rattle.std.proofs.Common.{ℕ, zero, suc, ◌≡◌, ◌⊎◌, ◌<◌, ◌≤◌, ◌&&◌, Bool, List, [], ◌∷◌, ◌++◌, get_or, length, Option, Some, None, Contains, refl, sym, subst, inl, inr, arith}
use Rattle.model_sta.specs.Automaton.{Rule, rules_of}
use Rattle.model_sttr.specs.Terms.{Term, on, build, Parts, no_parts, part, StandsFor, StandFor}
use Rattle.model_sttr.specs.Transducer.{Head, identity, run, OutRule, Sttr}
use Rattle.sttr_theory.specs.Lists.{IsAt, Extends, Match}
use Rattle.sttr_theory.specs.Covers.{Never}
use Rattle.sttr_theory.specs.Triples.{Triple, Way, LookName, of_first, of_second, middle, firsts, seconds, asked}
use Rattle.sttr_theory.specs.Built.{IsMadeRule, IsCopy, IsWayRule, IsNamed, IsWayTerm, IsOutRule, AreRulesFor, AreRulesOver, AreRulesOfWays, AreLookRules, AreOutRules, IsBuiltLook, IsBuilt, IsPartLook, IsPart}
use Rattle.sttr_theory.specs.Results.{AreNames}
use Rattle.sttr_theory.proofs.Matches.{match_map}
use Rattle.sttr_theory.proofs.Places.{last_or_before}

module _ {X : Type 0} where
  pub push_extends : (xs : List X) (y : X) → Extends xs (xs ++ y ∷ [])
  push_extends [] y i x at = absurd (omega (arith, at.0))
  push_extends (z ∷ xs) y zero x at = (omega arith, at.1)
  push_extends (z ∷ xs) y (suc i) x at = let (lt, e) = push_extends xs y i x (omega (arith, at.0), at.1) in (omega (arith, lt), e)

  pub push_last : (xs : List X) (y : X) → IsAt (xs ++ y ∷ []) (length xs) y
  push_last [] y = (omega arith, refl)
  push_last (z ∷ xs) y = let (lt, e) = push_last xs y in (omega (arith, lt), e)

  pub push_length : (xs : List X) (y : X) → length (xs ++ y ∷ []) ≡ suc (length xs)
  push_length [] y = refl
  push_length (z ∷ xs) y = let e = push_length xs y in omega (arith, e)

  -- the elements before the last are as they were
  pub push_before : (xss : List (List X)) (ys : List X) (i : ℕ) → i < length xss → get_or (xss ++ ys ∷ []) i [] ≡ get_or xss i []
  push_before [] ys i lt = absurd (omega (arith, lt))
  push_before (xs ∷ xss) ys zero lt = refl
  push_before (xs ∷ xss) ys (suc i) lt = push_before xss ys i (omega (arith, lt))

  pub push_at : (xss : List (List X)) (ys : List X) → get_or (xss ++ ys ∷ []) (length xss) [] ≡ ys
  push_at [] ys = refl
  push_at (xs ∷ xss) ys = push_at xss ys

  -- what stands at one place is one
  pub one_there : (xs : List X) (i : ℕ) (x y : X) → IsAt xs i x → IsAt xs i y → x ≡ y
  one_there [] i x y a b = absurd (omega (arith, a.0))
  one_there (z ∷ xs) zero x y a b = subst (λ u. u ≡ y) a.1 b.1
  one_there (z ∷ xs) (suc i) x y a b = one_there xs i x y (omega (arith, a.0), a.1) (omega (arith, b.0), b.1)

  same_default : (xs : List X) (i : ℕ) (x : X) → i < length xs → get_or xs i (get_or xs i x) ≡ get_or xs i x
  same_default [] i x lt = absurd (omega (arith, lt))
  same_default (z ∷ xs) zero x lt = refl
  same_default (z ∷ xs) (suc i) x lt = same_default xs i x (omega (arith, lt))

  -- so what stands there in a longer list stood there
  pub extends_back : (xs ys : List X) → Extends xs ys → (i : ℕ) (x : X) → i < length xs → IsAt ys i x → IsAt xs i x
  extends_back xs ys ext i x lt at = (lt, one_there ys i (get_or xs i x) x (ext i (get_or xs i x) (lt, same_default xs i x lt)) at)

module _ {X : Type 0} where
  pub extends_self : (xs : List X) → Extends xs xs
  extends_self xs i x at = at

  pub extends_twice : (xs ys zs : List X) → Extends xs ys → Extends ys zs → Extends xs zs
  extends_twice xs ys zs a b i x at = b i x (a i x at)

  pub extends_length : (xs ys : List X) → Extends xs ys → length xs ≤ length ys
  extends_length [] ys ext = omega arith
  extends_length (x ∷ xs) ys ext = let (lt, e) = ext (length xs) (get_or (x ∷ xs) (length xs) x) (omega arith, same_default (x ∷ xs) (length xs) x (omega arith)) in omega (arith, lt)

  -- what holds of each name holds of one more
  pub names_none : (F : X → Type 0) → AreNames F []
  names_none F i x at = absurd (omega (arith, at.0))

  pub names_more : (F : X → Type 0) (names : List X) (x : X) → AreNames F names → F x → AreNames F (names ++ x ∷ [])
  names_more F names x each fits i y at = at_or_before (last_or_before (length names) i (subst (λ n. i < n) (push_length names x) at.0))
    where
      at_or_before : (i ≡ length names) ⊎ (i < length names) → F y
      at_or_before (inl e) = subst F (one_there (names ++ x ∷ []) (length names) x y (push_last names x) (subst (λ n. IsAt (names ++ x ∷ []) n y) e at)) fits
      at_or_before (inr lt) = each i y (extends_back names (names ++ x ∷ []) (push_extends names x) i y lt at)

module _ {H K L : Type 0} (R S : H → K → Type 0) (D : L → Type 0) (f : (h : H) (k : K) → R h k → S h k) where
  mutual
    pub stands_map : (p : Term H (L → L)) (q : Term K (L → L)) → StandsFor R D p q → StandsFor S D p q
    stands_map (on h j) (on k i) s = (f h k s.0, s.1)
    stands_map (on h j) (build d n qs) s = s
    stands_map (build c m ps) (on k i) s = s
    stands_map (build c m ps) (build d n qs) s = (s.0, s.1, stand_map ps qs s.2)

    pub stand_map : (ps : Parts H (L → L)) (qs : Parts K (L → L)) → StandFor R D ps qs → StandFor S D ps qs
    stand_map no_parts no_parts s = tt
    stand_map no_parts (part q qs) s = s
    stand_map (part p ps) no_parts s = s
    stand_map (part p ps) (part q qs) s = (stands_map p q s.0, stand_map ps qs s.1)

module _ {L : Type 0} (ranks : List ℕ) (D : L → Type 0) (f g : Sttr L) where
  module _ {R : Type 0} (Is Is' : R → OutRule L → Way L → Type 0) (to : (r : R) (ρ : OutRule L) (y : Way L) → Is r ρ y → Is' r ρ y) where
    made_map : (ρ : OutRule L) (y : Way L) (rs : List R) → ((r : R) × Contains rs r × Is r ρ y) ⊎ Never D (λ l. ρ.rule.guard l && y.guard l) → ((r : R) × Contains rs r × Is' r ρ y) ⊎ Never D (λ l. ρ.rule.guard l && y.guard l)
    made_map ρ y rs (inl (r, at, is)) = inl (r, at, to r ρ y is)
    made_map ρ y rs (inr never) = inr never

    pub rules_map : (rs : List R) (x : Triple) → AreRulesFor ranks D f g Is rs x → AreRulesFor ranks D f g Is' rs x
    rules_map rs x are = record {
      only = λ r c. let (ρ, rule, ys, ways, y, mine, is) = are.only r c in (ρ, rule, ys, ways, y, mine, to r ρ y is);
      all = λ ρ rule. let (ys, ways, each) = are.all ρ rule in (ys, ways, λ y mine. made_map ρ y rs (each y mine));
    }

    pub rules_over_map : (ρs : List (OutRule L)) (rs : List R) (x : Triple) → AreRulesOver ranks D f g Is ρs rs x → AreRulesOver ranks D f g Is' ρs rs x
    rules_over_map ρs rs x are = record {
      only = λ r c. let (ρ, rule, ys, ways, y, mine, is) = are.only r c in (ρ, rule, ys, ways, y, mine, to r ρ y is);
      all = λ ρ rule. let (ys, ways, each) = are.all ρ rule in (ys, ways, λ y mine. made_map ρ y rs (each y mine));
    }

    pub rules_of_ways_map : (rs : List R) (ρ : OutRule L) (ys : List (Way L)) → AreRulesOfWays ranks D f g Is rs ρ ys → AreRulesOfWays ranks D f g Is' rs ρ ys
    rules_of_ways_map rs ρ ys are = record {
      only = λ r c. let (y, mine, is) = are.only r c in (y, mine, to r ρ y is);
      all = λ y c. made_map ρ y rs (are.all y c);
    }

  module _ (looks looks' : List LookName) (ext : Extends looks looks') where
    pub made_grown : (r : Rule L) (c : ℕ) (guard : L → Bool) (W : ℕ → List LookName) → IsMadeRule ranks D f g looks r c guard W → IsMadeRule ranks D f g looks' r c guard W
    made_grown r c guard W is = record {
      same_constructor = is.same_constructor;
      same_guard = is.same_guard;
      same_demands = λ j. match_map (IsAt looks) (IsAt looks') ext (get_or r.demands j []) (W j) (is.same_demands j);
    }

    pub way_grown : (r : Rule L) (ρ : OutRule L) (y : Way L) → IsWayRule ranks D f g looks r ρ y → IsWayRule ranks D f g looks' r ρ y
    way_grown r ρ y is = made_grown r ρ.rule.constructor (λ l. ρ.rule.guard l && y.guard l) (λ j. firsts (get_or ρ.rule.demands j []) ++ asked (get_or y.demands j [])) is

    pub look_grown : (rs : List (Rule L)) (x : LookName) → AreLookRules ranks D f g looks rs x → AreLookRules ranks D f g looks' rs x
    look_grown rs (of_first s) are = match_map (IsCopy ranks D f g looks firsts) (IsCopy ranks D f g looks' firsts) (λ r ρ is. made_grown r ρ.constructor ρ.guard (λ j. firsts (get_or ρ.demands j [])) is) rs (rules_of f.looks s) are
    look_grown rs (of_second s) are = match_map (IsCopy ranks D f g looks seconds) (IsCopy ranks D f g looks' seconds) (λ r ρ is. made_grown r ρ.constructor ρ.guard (λ j. seconds (get_or ρ.demands j [])) is) rs (rules_of g.looks s) are
    look_grown rs (middle q all) are = rules_map (IsWayRule ranks D f g looks) (IsWayRule ranks D f g looks') (λ r ρ y is. way_grown r ρ y is) rs (record { first = run q; all = all; second = None }) are

    -- rules that are not all there yet
    pub look_over_grown : (ρs : List (OutRule L)) (rs : List (Rule L)) (x : Triple) → AreRulesOver ranks D f g (IsWayRule ranks D f g looks) ρs rs x → AreRulesOver ranks D f g (IsWayRule ranks D f g looks') ρs rs x
    look_over_grown ρs rs x are = rules_over_map (IsWayRule ranks D f g looks) (IsWayRule ranks D f g looks') (λ r ρ y is. way_grown r ρ y is) ρs rs x are

    pub look_ways_grown : (rs : List (Rule L)) (ρ : OutRule L) (ys : List (Way L)) → AreRulesOfWays ranks D f g (IsWayRule ranks D f g looks) rs ρ ys → AreRulesOfWays ranks D f g (IsWayRule ranks D f g looks') rs ρ ys
    look_ways_grown rs ρ ys are = rules_of_ways_map (IsWayRule ranks D f g looks) (IsWayRule ranks D f g looks') (λ r ρ y is. way_grown r ρ y is) rs ρ ys are

    pub copies_grown : (these : List ℕ → List LookName) (rs ρs : List (Rule L)) → Match (IsCopy ranks D f g looks these) rs ρs → Match (IsCopy ranks D f g looks' these) rs ρs
    copies_grown these rs ρs are = match_map (IsCopy ranks D f g looks these) (IsCopy ranks D f g looks' these) (λ r ρ is. made_grown r ρ.constructor ρ.guard (λ j. these (get_or ρ.demands j [])) is) rs ρs are

    module _ (names names' : List Triple) (more : Extends names names') where
      named_grown : (h : Head) (x : Triple) → IsNamed ranks D f g names h x → IsNamed ranks D f g names' h x
      named_grown identity x is = is
      named_grown (run q) x at = more q x at

      pub term_grown : (p : Term Head (L → L)) (y : Option (Term Triple (L → L))) → IsWayTerm ranks D f g names p y → IsWayTerm ranks D f g names' p y
      term_grown p None is = is
      term_grown p (Some z) is = stands_map (IsNamed ranks D f g names) (IsNamed ranks D f g names') D named_grown p z is

      pub out_over_grown : (ρs rs : List (OutRule L)) (x : Triple) → AreRulesOver ranks D f g (IsOutRule ranks D f g looks names) ρs rs x → AreRulesOver ranks D f g (IsOutRule ranks D f g looks' names') ρs rs x
      out_over_grown ρs rs x are = rules_over_map (IsOutRule ranks D f g looks names) (IsOutRule ranks D f g looks' names') (λ r ρ y is. (way_grown r.rule ρ y is.0, term_grown r.term y.term is.1)) ρs rs x are

      pub out_ways_grown : (rs : List (OutRule L)) (ρ : OutRule L) (ys : List (Way L)) → AreRulesOfWays ranks D f g (IsOutRule ranks D f g looks names) rs ρ ys → AreRulesOfWays ranks D f g (IsOutRule ranks D f g looks' names') rs ρ ys
      out_ways_grown rs ρ ys are = rules_of_ways_map (IsOutRule ranks D f g looks names) (IsOutRule ranks D f g looks' names') (λ r ρ y is. (way_grown r.rule ρ y is.0, term_grown r.term y.term is.1)) rs ρ ys are

      pub out_grown : (rs : List (OutRule L)) (x : Triple) → AreOutRules ranks D f g looks names rs x → AreOutRules ranks D f g looks' names' rs x
      out_grown rs x are =
          rules_map (IsOutRule ranks D f g looks names) (IsOutRule ranks D f g looks' names')
          (λ r ρ y is. (way_grown r.rule ρ y is.0, term_grown r.term y.term is.1)) rs x are

  -- ---- a loop that does one name after the other

  pub part_look_none : (names : List LookName) → IsPartLook ranks D f g names []
  part_look_none names = record { each = λ i x lt at. absurd (omega (arith, lt)); no_more = omega arith }

  pub part_none : (looks : List LookName) (names : List Triple) → IsPart ranks D f g looks names []
  part_none looks names = record { each = λ i x lt at. absurd (omega (arith, lt)); no_more = omega arith }

  -- with more names
  pub part_look_grown : (names names' : List LookName) → Extends names names' → (looks : List (List (Rule L))) → IsPartLook ranks D f g names looks → IsPartLook ranks D f g names' looks
  part_look_grown names names' ext looks p = record {
    each = λ i x lt at. look_grown names names' ext (rules_of looks i) x (p.each i x lt (extends_back names names' ext i x (omega (arith, lt, p.no_more)) at));
    no_more = let e = extends_length names names' ext in omega (arith, e, p.no_more);
  }

  pub part_grown : (looks looks' : List LookName) → Extends looks looks' → (names names' : List Triple) → Extends names names' → (rules : List (List (OutRule L))) → IsPart ranks D f g looks names rules → IsPart ranks D f g looks' names' rules
  part_grown looks looks' ext names names' more rules p = record {
    each = λ i x lt at. out_grown looks looks' ext names names' more (get_or rules i []) x (p.each i x lt (extends_back names names' more i x (omega (arith, lt, p.no_more)) at));
    no_more = let e = extends_length names names' more in omega (arith, e, p.no_more);
  }

  module _ (names names' : List LookName) (ext : Extends names names') (looks : List (List (Rule L))) (part_look : IsPartLook ranks D f g names looks) where
    old_look : (rs : List (Rule L)) (i : ℕ) (x : LookName) → i < length looks → IsAt names' i x → AreLookRules ranks D f g names' (rules_of (looks ++ rs ∷ []) i) x
    old_look rs i x lt at =
        subst (λ those. AreLookRules ranks D f g names' those x) (sym (push_before looks rs i lt))
        (look_grown names names' ext (rules_of looks i) x (part_look.each i x lt (extends_back names names' ext i x (omega (arith, lt, part_look.no_more)) at)))

    -- one more state of the lookahead
    pub one_more_look : (x : LookName) (rs : List (Rule L)) → IsAt names' (length looks) x → AreLookRules ranks D f g names' rs x → IsPartLook ranks D f g names' (looks ++ rs ∷ [])
    one_more_look x rs at are = record {
      each = λ i y lt there. at_or_before rs i y (last_or_before (length looks) i (subst (λ n. i < n) (push_length looks rs) lt)) there;
      no_more = let e = push_length looks rs in omega (arith, e, at.0);
    }
      where
        at_or_before : (rs' : List (Rule L)) (i : ℕ) (y : LookName) → (i ≡ length looks) ⊎ (i < length looks) → IsAt names' i y → AreLookRules ranks D f g names' (rules_of (looks ++ rs ∷ []) i) y
        at_or_before rs' i y (inl e) there =
            let there' = subst (λ n. IsAt names' n y) e there in
            subst (λ n. AreLookRules ranks D f g names' (rules_of (looks ++ rs ∷ []) n) y) (sym e)
            (subst (λ those. AreLookRules ranks D f g names' those y) (sym (push_at looks rs)) (subst (λ z. AreLookRules ranks D f g names' rs z) (one_there names' (length looks) x y at there') are))
        at_or_before rs' i y (inr lt) there = old_look rs i y lt there

  pub all_looks : (names : List LookName) (looks : List (List (Rule L))) → IsPartLook ranks D f g names looks → length looks ≡ length names → IsBuiltLook ranks D f g names looks
  all_looks names looks p e = record { each = λ i x at. p.each i x (subst (λ n. i < n) (sym e) at.0) at; as_many = e }

  module _ (looks looks' : List LookName) (ext : Extends looks looks') (names names' : List Triple) (more : Extends names names') (rules : List (List (OutRule L))) (part_out : IsPart ranks D f g looks names rules) where
    old_out : (rs : List (OutRule L)) (i : ℕ) (x : Triple) → i < length rules → IsAt names' i x → AreOutRules ranks D f g looks' names' (get_or (rules ++ rs ∷ []) i []) x
    old_out rs i x lt at =
        subst (λ those. AreOutRules ranks D f g looks' names' those x) (sym (push_before rules rs i lt))
        (out_grown looks looks' ext names names' more (get_or rules i []) x (part_out.each i x lt (extends_back names names' more i x (omega (arith, lt, part_out.no_more)) at)))

    -- one more state of the transducer
    pub one_more_state : (x : Triple) (rs : List (OutRule L)) → IsAt names' (length rules) x → AreOutRules ranks D f g looks' names' rs x → IsPart ranks D f g looks' names' (rules ++ rs ∷ [])
    one_more_state x rs at are = record {
      each = λ i y lt there. at_or_before i y (last_or_before (length rules) i (subst (λ n. i < n) (push_length rules rs) lt)) there;
      no_more = let e = push_length rules rs in omega (arith, e, at.0);
    }
      where
        at_or_before : (i : ℕ) (y : Triple) → (i ≡ length rules) ⊎ (i < length rules) → IsAt names' i y → AreOutRules ranks D f g looks' names' (get_or (rules ++ rs ∷ []) i []) y
        at_or_before i y (inl e) there =
            let there' = subst (λ n. IsAt names' n y) e there in
            subst (λ n. AreOutRules ranks D f g looks' names' (get_or (rules ++ rs ∷ []) n []) y) (sym e)
            (subst (λ those. AreOutRules ranks D f g looks' names' those y) (sym (push_at rules rs)) (subst (λ z. AreOutRules ranks D f g looks' names' rs z) (one_there names' (length rules) x y at there') are))
        at_or_before i y (inr lt) there = old_out rs i y lt there

  pub all_states : (looks : List LookName) (names : List Triple) (c : Sttr L) → IsBuiltLook ranks D f g looks c.looks → IsPart ranks D f g looks names c.rules → length c.rules ≡ length names → IsBuilt ranks D f g looks names c
  all_states looks names c b p e = record { look = b; each = λ i x at. p.each i x (subst (λ n. i < n) (sym e) at.0) at; as_many = e }
