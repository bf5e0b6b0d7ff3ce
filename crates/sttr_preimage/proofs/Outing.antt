-- The rules of states that run a second transducer over outputs.
use Rattle.std.specs.Prelude.{⊤}
use Rattle.std.proofs.Common.{◌&&◌, ℕ, ◌+◌, ◌≡◌, ◌<◌, ◌≤◌, ◌⊎◌, inl, inr, Bool, true, List, [], ◌∷◌, ◌++◌, map, take, get_or, length, All, Contains, Option, Some, None, refl, sym, subst, ap, ◌∙◌, arith}
use Rattle.std.specs.Option.{option_map}
use Rattle.std.proofs.lemmas.List.{length-map, map-append, length-append, take_more}
use Rattle.std.proofs.lemmas.Simd.{map-map}
use Rattle.model_tree.specs.Label.{Label}
use Rattle.model_tree.specs.Formula.{EveryAtom}
use Rattle.model_sttr.specs.Terms.{Term, on, build, Parts, no_parts, part, with_maps, parts_with_maps, Occurs, OccursIn}
use Rattle.model_sttr.specs.Transducer.{Head, identity, run, OutRule, Sttr, GivesSame, IsHead}
use Rattle.model_sttr.specs.Plain.{PlainOut}
use Rattle.model_sttr.specs.Guards.{MakesBy}
use Rattle.label_core.specs.Formula.{plain_formula}
use Rattle.label_core.specs.Meaning.{Meaning}
use Rattle.sta_core.specs.Machine.{PlainRule}
use Rattle.sttr_core.specs.Machine.{OutMachine}
use Rattle.sttr_theory.specs.Lists.{IsAt, Extends}
use Rattle.sttr_theory.specs.Triples.{Triple, Way, LookName, IsTermFor, AreWays}
use Rattle.sttr_theory.specs.Covers.{Covers, Never}
use Rattle.sttr_theory.proofs.Covers.{covers_none, covers_more, covers_skip, covers_weaker}
use Rattle.sttr_preimage.specs.Apart.{AreApart}
use Rattle.sttr_theory.specs.Built.{AreRulesOfWays, IsNamed, IsRuleOf, IsWayTerm, AreRulesOver, IsPart, TripleFits}
use Rattle.sttr_theory.proofs.Grow.{stands_map, way_grown, term_grown, one_more_state}
use Rattle.sttr_theory.proofs.Names.{called_fits, two_identities}
use Rattle.sttr_theory.proofs.Over.{no_rules}
use Rattle.sttr_run.specs.Fits.{RuleStands, SttrStands}
use Rattle.sttr_run.specs.Plain.{plain_way_term, way_at}
use Rattle.sttr_run.specs.declared.triples.Way as code
use Rattle.sttr_run.specs.declared.triples.WayTerm.{WayTerm}
use Rattle.sttr_run.specs.Sources.{GivesChild}
use Rattle.sttr_preimage.specs.Names.{tidy, tidy_all, Adds}
use Rattle.sttr_preimage.specs.Rules.{IsMadeOf, way_demands, both_of}
use Rattle.sttr_preimage.specs.Tidy.{tidy_term, tidy_parts, tidy_way}
use Rattle.sttr_preimage.specs.Called.{KeepsOutput, MayRun, IsHeadOf, HasTerm, IsCalledIn, IsTermOf, IsOutMade, AreOutMade}
use Rattle.sttr_preimage.specs.Images.{first_of, second_of, meant, IsLookName, HasOutRule, WayStands}
use Rattle.sttr_preimage.specs.Outs.{IsOutRule, HasState, OutStands, HasOutWays, HasOutsOver, HasOuts, OutsSoFar}
use Rattle.sttr_core.specs.Fits.{EveryMap}
use Rattle.sttr_run.specs.Runs.{OnTerm}
use Rattle.sttr_preimage.proofs.Atoms.{all_in, in_all, all_map}
use Rattle.sttr_preimage.proofs.Copying.{made_is_way, way_wider}
use Rattle.sttr_preimage.proofs.Middles.{covers_mapped, all_both, row_more, made_rule, row_stands, wanted_known, fits_at, over_then, over_all}
use Rattle.sttr_preimage.proofs.Numbered.{adds_then, adds_wider, adds_same, adds_extends, adds_length}
use Rattle.sttr_preimage.proofs.Renaming.{head_grown}
use Rattle.sttr_preimage.proofs.Standing.{rule_over, sttr_fits, gives_child}
use Rattle.sttr_theory.proofs.Members.{here, in_left, in_right, in_either, in_single}

-- ---- one way after the other

module _ {M : Type 0} (make : M → Label → Label) (D : Label → Type 0) (eq : M → M → Bool) where
  term_wider : (a b : List Triple) → Extends a b → (y : Option (WayTerm M)) (t : Term Head M) → IsTermOf make D eq a a y t → IsTermOf make D eq b b y t
  term_wider a b ext None t is = is
  term_wider a b ext (Some z) t is = record { adds = adds_same b b _ refl; stands = stands_map (IsHeadOf a) (IsHeadOf b) D (head_grown a b ext) (with_maps make t) (tidy_term (with_maps make (plain_way_term z))) is.stands; maps = is.maps }

  term_own : (a b : List Triple) (y : Option (WayTerm M)) (t : Term Head M) → IsTermOf make D eq a b y t → IsTermOf make D eq b b y t
  term_own a b None t is = is
  term_own a b (Some z) t is = record { adds = adds_same b b _ refl; stands = is.stands; maps = is.maps }

  term_adds : (a b : List Triple) (y : Option (WayTerm M)) (t : Term Head M) → IsTermOf make D eq a b y t → Adds a b (IsCalledIn y)
  term_adds a b None t is = absurd is
  term_adds a b (Some z) t is = adds_wider a b _ _ is.adds (λ x w. w)

module _ {A M : Type 0} (make : M → Label → Label) (D : Label → Type 0) (eq : M → M → Bool) where
  module _ (holds : A → Label → Bool) where
    abbrev Apart : PlainRule A → code.Way A M → Type 0
    Apart r y = AreApart holds D r.guard (plain_formula y.guard)

    pub outs_none : (names : List LookName) (called : List Triple) (r : PlainRule A) (made : List (PlainOut (PlainRule A) M)) → made ≡ [] → AreOutMade make D eq holds names names called called r [] made
    outs_none names called r made e = record { adds = adds_same names names _ refl; calls = adds_same called called _ refl; rules = subst (λ l. Covers (IsOutMade make D eq names called r) (Apart r) l []) (sym e) (covers_none (IsOutMade make D eq names called r) (Apart r)) }

    pub outs_more : (a b c : List LookName) (p q s : List Triple) (r : PlainRule A) (ys : List (code.Way A M)) (i : ℕ) (y : code.Way A M) (made next : List (PlainOut (PlainRule A) M)) (x : PlainOut (PlainRule A) M) → AreOutMade make D eq holds a b p q r (take i ys) made
        → IsMadeOf b c r (both_of r.guard (plain_formula y.guard)) (way_demands r y.demands.items) x.rule → IsTermOf make D eq q s y.term x.term → i < length ys → y ≡ get_or ys i y → next ≡ made ++ x ∷ [] → AreOutMade make D eq holds a c p s r (take (i + 1) ys) next
    outs_more a b c p q s r ys i y made next x h is term low at e =
        let calls = term_adds make D eq q s y.term x.term term in
        subst (λ l. AreOutMade make D eq holds a c p s r l next) (sym (take_more ys i y low ∙ ap (λ z. take i ys ++ z ∷ []) (sym at))) (subst (AreOutMade make D eq holds a c p s r (take i ys ++ y ∷ [])) (sym e) (record {
          adds = adds_then a b c _ _ _ h.adds is.demands.adds (λ k w. (w.0, in_left (take i ys) (y ∷ []) w.0 w.1, w.2, w.3, w.4)) (λ k w. (y, in_right (take i ys) (y ∷ []) y (here y []), w.0, w.1, w.2));
          calls = adds_then p q s _ _ _ h.calls calls (λ k w. (w.0, in_left (take i ys) (y ∷ []) w.0 w.1, w.2)) (λ k w. (y, in_right (take i ys) (y ∷ []) y (here y []), w));
          rules = covers_more (IsOutMade make D eq c s r) (Apart r) made (take i ys) x y
              (covers_weaker (IsOutMade make D eq b q r) (IsOutMade make D eq c s r) (Apart r) (Apart r) (λ o z k. record { rule = way_wider b c (adds_extends b c _ is.demands.adds) r o.rule z k.rule; term = term_wider make D eq q s (adds_extends q s _ calls) z.term o.term k.term }) (λ z out. out) made (take i ys) h.rules)
              (record { rule = made_is_way b c r x.rule y is; term = term_own make D eq q s y.term x.term term });
        }))

    pub outs_skip : (a b : List LookName) (p q : List Triple) (r : PlainRule A) (ys : List (code.Way A M)) (i : ℕ) (y : code.Way A M) (made : List (PlainOut (PlainRule A) M)) → AreOutMade make D eq holds a b p q r (take i ys) made → Apart r y → i < length ys → y ≡ get_or ys i y → AreOutMade make D eq holds a b p q r (take (i + 1) ys) made
    outs_skip a b p q r ys i y made h out low at =
        subst (λ l. AreOutMade make D eq holds a b p q r l made) (sym (take_more ys i y low ∙ ap (λ z. take i ys ++ z ∷ []) (sym at))) (record {
          adds = adds_wider a b _ _ h.adds (λ k w. (w.0, in_left (take i ys) (y ∷ []) w.0 w.1, w.2, w.3, w.4));
          calls = adds_wider p q _ _ h.calls (λ k w. (w.0, in_left (take i ys) (y ∷ []) w.0 w.1, w.2));
          rules = covers_skip (IsOutMade make D eq b q r) (Apart r) made (take i ys) y h.rules out;
        })

module _ {M : Type 0} (f : M → Label → Label) (d : Triple) (j : ℕ) where
  mutual
    tidy_occurs : (p : Term Triple M) → Occurs d j p → Occurs (tidy d) j (tidy_term (with_maps f p))
    tidy_occurs (on x i) o = (ap tidy o.0, o.1)
    tidy_occurs (build c k ps) o = tidy_occurs_in ps o

    tidy_occurs_in : (ps : Parts Triple M) → OccursIn d j ps → OccursIn (tidy d) j (tidy_parts (parts_with_maps f ps))
    tidy_occurs_in no_parts o = o
    tidy_occurs_in (part p ps) (inl o) = inl (tidy_occurs p o)
    tidy_occurs_in (part p ps) (inr o) = inr (tidy_occurs_in ps o)

-- ---- where an output may be given as it is

pub one_head : (h k : Head) → Some h ≡ Some k → h ≡ k
one_head h k e = cc

module _ {L : Type 0} (g : Sttr L) where
  pub may_wider : (K K' : Type 0) → (K → K' ⊎ GivesSame g) → (h : Head) → MayRun g K h → MayRun g K' h
  may_wider K K' to h (inl head) = inl head
  may_wider K K' to h (inr (k, e)) = elim (to k) [ inl more ↦ inr (more, e) | inr same ↦ inl (subst (IsHead g) (sym e) same) ]

  -- a triple that keeps outputs does so where K, or where the second gives a child as it is
  pub may_keep : (K : Type 0) (x : Triple) (h : Head) → x.second ≡ Some h → MayRun g K h → KeepsOutput x → K ⊎ GivesSame g
  may_keep K x h e (inl head) keeps = inr (subst (IsHead g) (one_head h identity (sym e ∙ keeps)) head)
  may_keep K x h e (inr (k, is)) keeps = inl k

  may_own : (K : Type 0) (x : Triple) (h : Head) → x.second ≡ Some h → MayRun g K h → MayRun g (KeepsOutput x) h
  may_own K x h e (inl head) = inl head
  may_own K x h e (inr (k, is)) = inr (e ∙ ap Some is, is)

pub fits_wider : {L : Type 0} (f g : Sttr L) (S S' : Head → Type 0) (x : Triple) → ((h : Head) → S h → S' h) → TripleFits f g S x → TripleFits f g S' x
fits_wider f g S S' x to h = record { is_first = h.is_first; are = h.are; second = h.second; has_second = h.has_second; is_second = to h.second h.is_second; no_copy = h.no_copy; asks_apart = h.asks_apart }

-- ---- the rules of a state

module _ {A M V W : Type 0} (is_put : M → A → A → Type 0) (make : M → Label → Label) {label_of : V → Label} {holds : A → Label → Bool} (N : Meaning label_of holds W) (fits : A → Type 0) (f g : OutMachine A M) (Q : Type 0 → M → Type 0) where
  abbrev F : Sttr Label
  F = first_of holds make f g

  abbrev G : Sttr Label
  G = second_of holds make f g

  abbrev R : List ℕ
  R = f.looks.ranks

  abbrev State : Type 0 → Triple → Type 0
  State = HasState is_put make N fits f g

  abbrev Fit : Type 0 → ℕ → PlainOut (PlainRule A) M → Type 0
  Fit = OutStands is_put make N fits f g Q

  abbrev Rule : List LookName → List Triple → OutRule Label → OutRule Label → Way Label → Type 0
  Rule = IsOutRule is_put make N fits f g

  pub state_wider : (K K' : Type 0) → (K → K' ⊎ GivesSame G) → (x : Triple) → State K x → State K' x
  state_wider K K' to x h = fits_wider F G (MayRun G K) (MayRun G K') x (may_wider G K K' to) h

  pub own_state : (K : Type 0) (x : Triple) → State K x → State (KeepsOutput x) x
  own_state K x h = record { is_first = h.is_first; are = h.are; second = h.second; has_second = h.has_second; is_second = may_own G K x h.second h.has_second h.is_second; no_copy = h.no_copy; asks_apart = h.asks_apart }

  fit_more : (K : Type 0) (n m : ℕ) → n ≤ m → (rs : List (PlainOut (PlainRule A) M)) → All (Fit K n) rs → All (Fit K m) rs
  fit_more K n m le rs h = all_map (Fit K n) (Fit K m) rs (λ r k. record { rule = row_more is_put make N fits f g ⊥ ⊤ n m le r.rule k.rule; maps = k.maps }) h

  rule_grown : (b c : List LookName) → Extends b c → (p q : List Triple) → Extends p q → (r ρ : OutRule Label) (y : Way Label) → Rule b p r ρ y → Rule c q r ρ y
  rule_grown b c ext p q more r ρ y is = (way_grown R N.has F G b c ext r.rule ρ y is.0, term_grown R N.has F G b c ext p q more r.term y.term is.1)

  pub head_named : (names : List Triple) (h : Head) (x : Triple) → IsHeadOf names h x → IsNamed R N.has F G names h x
  head_named names identity x e = e
  head_named names (run q) x at = at

  module _ (looks : All (All (RuleStands R (length f.looks.rules))) f.looks.rules) (stands : SttrStands f) (guards : All (λ rules. All (λ r. EveryAtom fits r.rule.guard) rules) f.rules) (same : (b : A) → N.equal b b ≡ true)
      (q : ℕ) (ρ : PlainOut (PlainRule A) M) (there : HasOutRule f q ρ) (t : Triple) (first : t.first ≡ run q) (known : State (KeepsOutput t) t) (ys : List (code.Way A M)) (are : AreWays F G N.has (with_maps make ρ.term) t (map tidy_way (map (way_at holds make) ys))) (ways : All (WayStands is_put make N fits f g (Q (KeepsOutput t))) ys) where
    abbrev tidied : code.Way A M → Way Label
    tidied y = tidy_way (way_at holds make y)

    abbrev term_at : Option (WayTerm M) → Option (Term Triple (Label → Label))
    term_at z = option_map tidy_term (option_map (λ z. with_maps make (plain_way_term z)) z)

    term_fits : (y : code.Way A M) → Contains ys y → IsTermFor F G (with_maps make ρ.term) t (term_at y.term)
    term_fits y mine = (fits_at is_put make N fits f g looks stands guards same (Q (KeepsOutput t)) q ρ there t ys are ways y mine).term

    pub terms_there : All (λ y. HasTerm y.term) ys
    terms_there = in_all (λ y. HasTerm y.term) ys (λ y mine. by y.term (term_fits y mine))
      where
        by : (z : Option (WayTerm M)) → IsTermFor F G (with_maps make ρ.term) t (term_at z) → HasTerm z
        by None is = absurd (let wrong : Some known.second ≡ None = sym known.has_second ∙ is in cc)
        by (Some z) is = λ d j o. let called = is.1 (tidy d) j (tidy_occurs make d j (plain_way_term z) o) in record { head = called.1; second = called.2; unchanged = λ e. subst (λ h. tidy_all h d.all ≡ []) e (called.4 e) }

    call_known : (y : code.Way A M) → Contains ys y → (x : Triple) → IsCalledIn y.term x → State (KeepsOutput t) x
    call_known y mine x c = by y.term (term_fits y mine) c
      where
        by : (z : Option (WayTerm M)) → IsTermFor F G (with_maps make ρ.term) t (term_at z) → IsCalledIn z x → State (KeepsOutput t) x
        by None is c = absurd c
        by (Some z) is (d, j, o, e, moves) =
            let called = is.1 (tidy d) j (tidy_occurs make d j (plain_way_term z) o) in
            let rule : IsRuleOf R N.has F G t.first (meant holds make f g ρ) = subst (λ h. IsRuleOf R N.has F G h (meant holds make f g ρ)) (sym first) (rule_over holds make f q ρ there) in
            subst (State (KeepsOutput t)) e (called_fits R N.has F G (sttr_fits holds make f looks stands) (MayRun G (KeepsOutput t)) (λ h is. inl is) t known (meant holds make f g ρ) rule (tidy d) j called (λ e1 e2. moves (two_identities (tidy d) called.4 e1 e2 ∙ e)))

    term_is : (names : List Triple) (y : Option (WayTerm M)) (eq : M → M → Bool) (x : Term Head M) → IsTermOf make N.has eq names names y x → IsWayTerm R N.has F G names (with_maps make x) (term_at y)
    term_is names None eq x is = absurd is
    term_is names (Some z) eq x is = stands_map (IsHeadOf names) (IsNamed R N.has F G names) N.has (head_named names) (with_maps make x) (tidy_term (with_maps make (plain_way_term z))) is.stands

    module _ (eq : M → M → Bool) (Q_same : (m n : M) → Q (KeepsOutput t) m → eq m n ≡ true → Q (KeepsOutput t) n) where
      term_maps : (names : List Triple) (y : code.Way A M) → Contains ys y → (z : Option (WayTerm M)) → y.term ≡ z → (x : Term Head M) → IsTermOf make N.has eq names names z x → (k : M) → MakesBy x k → Q (KeepsOutput t) k
      term_maps names y mine None e x is k o = absurd is
      term_maps names y mine (Some z) e x is k o = let (i, at, alike) = is.maps k o in Q_same i k (old z e i at) alike
        where
          old : (z : WayTerm M) → y.term ≡ Some z → (i : M) → MakesBy (plain_way_term z) i → Q (KeepsOutput t) i
          old z e = subst (λ o. OnTerm (λ z. EveryMap (Q (KeepsOutput t)) (plain_way_term z)) o) e (all_in (WayStands is_put make N fits f g (Q (KeepsOutput t))) ys ways y mine).maps

      pub outs_done : (b c : List LookName) (p s : List Triple) (made : List (PlainOut (PlainRule A) M)) → AreOutMade make N.has eq holds b c p s ρ.rule ys made → HasOutWays is_put make N fits f g Q (KeepsOutput t) b c p s ρ (map tidy_way (map (way_at holds make) ys)) made
      outs_done b c p s made h = record {
        adds = adds_wider b c _ (IsLookName holds make f g ⊥ ⊤) h.adds (λ x w. wanted_known is_put make N fits f g looks stands guards same (Q (KeepsOutput t)) q ρ there t ys are ways w.0 w.1 w.2 x w.4);
        calls = adds_wider p s _ (State (KeepsOutput t)) h.calls (λ x w. call_known w.0 w.1 x w.2);
        over = subst (AreRulesOfWays R N.has F G (Rule c s) (map (meant holds make f g) made) (meant holds make f g ρ)) (sym (map-map tidy_way (way_at holds make) ys))
            (covers_mapped (IsOutMade make N.has eq c s ρ.rule) (λ y. AreApart holds N.has ρ.rule.guard (plain_formula y.guard)) (λ r y. Rule c s r (meant holds make f g ρ) y) (λ w. Never N.has (λ l. (meant holds make f g ρ).rule.guard l && w.guard l)) (meant holds make f g) tidied made ys
            (λ x y at mine is. (made_rule is_put make N fits f g looks stands guards same (Q (KeepsOutput t)) q ρ there t ys are ways c x.rule y mine is.rule, term_is s y.term eq x.term is.term)) (λ y out. out) h.rules);
        stand = in_all (Fit (KeepsOutput t) (length c)) made (λ x at. let (y, mine, is) = h.rules.only x at in record {
          rule = row_stands is_put make N fits f g looks stands guards same (Q (KeepsOutput t)) q ρ there t ys are ways c x.rule y mine is.rule;
          maps = term_maps s y mine y.term refl x.term is.term;
        });
      }

  -- ---- all rules, and all states

  pub outs_over_none : (b : List LookName) (p : List Triple) (t : Triple) (rules : List (PlainOut (PlainRule A) M)) → rules ≡ [] → HasOutsOver is_put make N fits f g Q b b p p t [] rules
  outs_over_none b p t rules e = subst (HasOutsOver is_put make N fits f g Q b b p p t []) (sym e) (record {
    adds = adds_same b b _ refl;
    calls = adds_same p p _ refl;
    over = no_rules R N.has F G (Rule b p) t;
    stand = in_all (Fit (KeepsOutput t) (length b)) [] (λ x c. absurd (omega (arith, c.1)));
  })

  pub outs_over_more : (o b c : List LookName) (p q s : List Triple) (t : Triple) (ρs ρs' : List (PlainOut (PlainRule A) M)) (ρ : PlainOut (PlainRule A) M) (rules made next : List (PlainOut (PlainRule A) M)) (ys : List (Way Label)) → HasOutsOver is_put make N fits f g Q o b p q t ρs rules
      → AreWays F G N.has (with_maps make ρ.term) t ys → HasOutWays is_put make N fits f g Q (KeepsOutput t) b c q s ρ ys made → ρs' ≡ ρs ++ ρ ∷ [] → next ≡ rules ++ made → HasOutsOver is_put make N fits f g Q o c p s t ρs' next
  outs_over_more o b c p q s t ρs ρs' ρ rules made next ys h ways w e e' = subst (λ l. HasOutsOver is_put make N fits f g Q o c p s t l next) (sym e) (subst (HasOutsOver is_put make N fits f g Q o c p s t (ρs ++ ρ ∷ [])) (sym e') (record {
    adds = adds_then o b c _ _ _ h.adds w.adds (λ x k. k) (λ x k. k);
    calls = adds_then p q s _ _ _ h.calls w.calls (λ x k. k) (λ x k. k);
    over = subst (λ l. AreRulesOver R N.has F G (Rule c s) (map (meant holds make f g) (ρs ++ ρ ∷ [])) l t) (sym (map-append (meant holds make f g) rules made))
        (over_then is_put make N fits f g (Rule b q) (Rule c s) (rule_grown b c (adds_extends b c _ w.adds) q s (adds_extends q s _ w.calls)) t ρs (map (meant holds make f g) rules) (map (meant holds make f g) made) ρ ys h.over ways w.over);
    stand = all_both (Fit (KeepsOutput t) (length c)) rules made (fit_more (KeepsOutput t) (length b) (length c) (adds_length b c _ w.adds) rules h.stand) w.stand;
  }))

  pub state_done : (b c : List LookName) (p s : List Triple) (q : ℕ) (t : Triple) → t.first ≡ run q → (rules : List (PlainOut (PlainRule A) M)) → HasOutsOver is_put make N fits f g Q b c p s t (get_or f.rules q []) rules → HasOuts is_put make N fits f g Q b c p s t rules
  state_done b c p s q t first rules h = record { adds = h.adds; calls = h.calls; are = over_all is_put make N fits f g (Rule c s) q t (map (meant holds make f g) rules) first h.over; stand = h.stand }

  abbrev SoFar : Type 0 → List LookName → List LookName → List Triple → List Triple → List (List (PlainOut (PlainRule A) M)) → ℕ → Type 0
  SoFar = OutsSoFar is_put make N fits f g Q

  pub states_none : (K : Type 0) (b : List LookName) (p : List Triple) (rows : List (List (PlainOut (PlainRule A) M))) → ((x : Triple) → Contains p x → State K x) → rows ≡ [] → SoFar K b b p p rows 0
  states_none K b p rows known e = subst (λ l. SoFar K b b p p l 0) (sym e) (record {
    adds = adds_same b b _ refl;
    calls = adds_same p p _ refl;
    known = known;
    part = record { each = λ i x low at. absurd (omega (arith, low)); no_more = omega arith };
    stand = in_all (All (Fit K (length b))) [] (λ x c. absurd (omega (arith, c.1)));
    count = refl;
  })

  pub states_next : (K : Type 0) → ((K' : Type 0) → (K' → K ⊎ GivesChild g) → (m : M) → Q K' m → Q K m) → (o b c : List LookName) (p q s : List Triple) (x : Triple) (rows next : List (List (PlainOut (PlainRule A) M))) (rs : List (PlainOut (PlainRule A) M)) (place : ℕ) → SoFar K o b p q rows place
      → IsAt q place x → HasOuts is_put make N fits f g Q b c q s x rs → next ≡ rows ++ rs ∷ [] → SoFar K o c p s next (place + 1)
  states_next K Q_wide o b c p q s x rows next rs place h at new e =
      let own = h.known x (place, at.0, at.1) in
      let keeps = may_keep G K x own.second own.has_second own.is_second in
      let calls = adds_wider q s _ (State K) new.calls (state_wider (KeepsOutput x) K keeps) in
      let child : KeepsOutput x → K ⊎ GivesChild g = λ k. elim (keeps k) [ inl more ↦ inl more | inr is ↦ inr (gives_child holds make g is) ] in
      let wide : (r : PlainOut (PlainRule A) M) → Fit (KeepsOutput x) (length c) r → Fit K (length c) r = λ r is. record { rule = is.rule; maps = λ m o. Q_wide (KeepsOutput x) child m (is.maps m o) } in
      subst (λ l. SoFar K o c p s l (place + 1)) (sym e) (record {
        adds = adds_then o b c _ _ _ h.adds new.adds (λ y w. w) (λ y w. w);
        calls = adds_then p q s _ _ _ h.calls calls (λ y w. w) (λ y w. w);
        known = λ y there. elim (in_either q calls.more y (subst (λ l. Contains l y) calls.behind there)) [ inl before ↦ h.known y before | inr after ↦ calls.wanted y after ];
        part = subst (IsPart R N.has F G c s) (sym (map-append (map (meant holds make f g)) rows (rs ∷ [])))
            (one_more_state R N.has F G b c (adds_extends b c _ new.adds) q s (adds_extends q s _ calls) (map (map (meant holds make f g)) rows) h.part x (map (meant holds make f g) rs)
            (subst (λ i. IsAt s i x) (sym (length-map rows (map (meant holds make f g)) ∙ h.count)) (adds_extends q s _ calls place x at)) new.are);
        stand = all_both (All (Fit K (length c))) rows (rs ∷ [])
            (all_map (All (Fit K (length b))) (All (Fit K (length c))) rows (λ those every. fit_more K (length b) (length c) (adds_length b c _ new.adds) those every) h.stand)
            (in_all (All (Fit K (length c))) (rs ∷ []) (λ those one. subst (All (Fit K (length c))) (in_single rs those one) (all_map (Fit (KeepsOutput x) (length c)) (Fit K (length c)) rs wide new.stand)));
        count = let n = length-append rows (rs ∷ []) in omega (arith, n, h.count);
      })
