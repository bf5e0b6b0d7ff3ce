-- Closed names give a transducer that is built.
use Rattle.std.specs.List.{flat_map}
use Rattle.std.proofs.Common.{ℕ, zero, suc, ◌+◌, ◌≡◌, ◌<◌, List, [], ◌∷◌, ◌++◌, map, get_or, length, Option, Some, None, Contains, refl, sym, ap, ap₂, subst, ◌∙◌, inl, inr, arith}
use Rattle.std.proofs.Math.ListN.{length-map}
use Rattle.model_sta.specs.Automaton.{Rule, rules_of}
use Rattle.model_sta.specs.Operations.{AreStates}
use Rattle.model_sttr.specs.Terms.{Term, on, build, Parts, no_parts, part, Occurs, OccursIn, StandsFor, StandFor}
use Rattle.model_sttr.specs.Transducer.{Head, identity, run, OutRule, Sttr, SttrFits}
use Rattle.sttr_theory.specs.Lists.{IsAt, Match}
use Rattle.sttr_theory.specs.Triples.{Triple, Way, LookName, of_first, of_second, middle, firsts, seconds, asked}
use Rattle.sttr_theory.specs.Built.{copying, IsRuleOf, IsCopy, IsWayRule, IsNamed, IsWayTerm, AreRulesFor, AreLookRules, AreOutRules, IsBuilt, LookNameFits}
use Rattle.sttr_theory.specs.Ways.{ways}
use Rattle.sttr_theory.specs.Results.{AreNames}
use Rattle.sttr_theory.specs.Build.{copies, head_rules, copied_rule, way_rule, look_rules, head_for, with_heads, parts_with_heads, out_term, out_rule, triple_rules, built_of, AreNumbered, IsLookClosed, AreCalled, IsClosed}
use Rattle.sttr_theory.proofs.Members.{here, there, to_mapped, of_mapped, to_flat, of_flat, map_append}
use Rattle.sttr_theory.proofs.Each.{each_at}
use Rattle.sttr_theory.proofs.OneOf.{merge_at}
use Rattle.sttr_theory.proofs.Exact.{ways_exact}

module _ {X Y : Type 0} where
  mapped_at : (F : X → List Y) (xs : List X) (i : ℕ) (x : X) → IsAt xs i x → get_or (map F xs) i [] ≡ F x
  mapped_at F [] i x at = absurd (omega (arith, at.0))
  mapped_at F (y ∷ xs) zero x at = ap F at.1
  mapped_at F (y ∷ xs) (suc i) x at = mapped_at F xs i x (omega (arith, at.0), at.1)

  mapped_get : (F : List X → List Y) → F [] ≡ [] → (xss : List (List X)) (j : ℕ) → get_or (map F xss) j [] ≡ F (get_or xss j [])
  mapped_get F e [] j = sym e
  mapped_get F e (xs ∷ xss) zero = refl
  mapped_get F e (xs ∷ xss) (suc j) = mapped_get F e xss j

module _ {L : Type 0} (ranks : List ℕ) (D : L → Type 0) (f g : Sttr L) (number : Triple → ℕ) (look_number : LookName → ℕ) where
  numbered_match : (looks wanted : List LookName) → AreNumbered ranks f g number look_number looks wanted → Match (IsAt looks) (map look_number wanted) wanted
  numbered_match looks wanted e = (
    λ i c. let (n, at, is) = of_mapped look_number wanted i c in (n, at, subst (λ k. IsAt looks k n) is (each_at (λ n. IsAt looks (look_number n) n) wanted n e at)),
    λ n c. (look_number n, to_mapped look_number wanted n c, each_at (λ n. IsAt looks (look_number n) n) wanted n e c),
  )

  copied_is : (looks : List LookName) (these : List ℕ → List LookName) → these [] ≡ [] → (ρ : Rule L) → ((j : ℕ) → AreNumbered ranks f g number look_number looks (these (get_or ρ.demands j []))) → IsCopy ranks D f g looks these (copied_rule ranks f g number look_number these ρ) ρ
  copied_is looks these e ρ closed = record {
    same_constructor = refl;
    same_guard = λ l d. refl;
    same_demands = λ j. subst (λ ds. Match (IsAt looks) ds (these (get_or ρ.demands j []))) (sym (mapped_get (λ d. map look_number (these d)) (ap (map look_number) e) ρ.demands j))
        (numbered_match looks (these (get_or ρ.demands j [])) (closed j));
  }

  way_rule_is : (looks : List LookName) (ρ : OutRule L) (y : Way L) → ((j : ℕ) → AreNumbered ranks f g number look_number looks (firsts (get_or ρ.rule.demands j []) ++ asked (get_or y.demands j []))) → IsWayRule ranks D f g looks (way_rule ranks f g number look_number ρ y) ρ y
  way_rule_is looks ρ y closed = record {
    same_constructor = refl;
    same_guard = λ l d. refl;
    same_demands = λ j. subst (λ ds. Match (IsAt looks) ds (firsts (get_or ρ.rule.demands j []) ++ asked (get_or y.demands j []))) (sym (demands_at j))
        (numbered_match looks (firsts (get_or ρ.rule.demands j []) ++ asked (get_or y.demands j [])) (closed j));
  }
    where
      demands_at : (j : ℕ) → get_or (way_rule ranks f g number look_number ρ y).demands j [] ≡ map look_number (firsts (get_or ρ.rule.demands j []) ++ asked (get_or y.demands j []))
      demands_at j =
          merge_at (map (λ d. map look_number (firsts d)) ρ.rule.demands) (map (λ d. map look_number (asked d)) y.demands) j
          ∙ ap₂ (λ xs ys. xs ++ ys) (mapped_get (λ d. map look_number (firsts d)) refl ρ.rule.demands j) (mapped_get (λ d. map look_number (asked d)) refl y.demands j)
          ∙ sym (map_append look_number (firsts (get_or ρ.rule.demands j [])) (asked (get_or y.demands j [])))

  copies_out : (i : ℕ) (ns : List ℕ) (ρ : OutRule L) → Contains (copies L i ns) ρ → (c : ℕ) × (c < length ns) × (k : ℕ) × (k ≡ i + c) × (ρ ≡ copying k (get_or ns c 0))
  copies_out i [] ρ c = absurd (omega arith)
  copies_out i (n ∷ ns) ρ (zero, lt, e) = (0, omega arith, i, omega arith, sym e)
  copies_out i (n ∷ ns) ρ (suc k, lt, e) =
      let (c, b, k', is, eq) = copies_out (suc i) ns ρ (k, omega (arith, lt), e) in
      (suc c, omega (arith, b), k', omega (arith, is), eq)

  copies_in : (i : ℕ) (ns : List ℕ) (c k : ℕ) → c < length ns → k ≡ i + c → Contains (copies L i ns) (copying k (get_or ns c 0))
  copies_in i [] c k lt e = absurd (omega (arith, lt))
  copies_in i (n ∷ ns) zero k lt e = subst (λ x. Contains (copies L i (n ∷ ns)) (copying x n)) (omega (arith, e)) (here (copying i n) (copies L (suc i) ns))
  copies_in i (n ∷ ns) (suc c) k lt e = there (copying i n) (copies L (suc i) ns) (copying k (get_or ns c 0)) (copies_in (suc i) ns c k (omega (arith, lt)) (omega (arith, e)))

  pub rules_out : (h : Head) (ρ : OutRule L) → Contains (head_rules ranks f g number look_number h) ρ → IsRuleOf ranks D f g h ρ
  rules_out identity ρ c = let (k, lt, n, is, e) = copies_out 0 ranks ρ c in (k, lt, e ∙ ap (λ x. copying x (get_or ranks k 0)) (omega (arith, is)))
  rules_out (run q) ρ c = c

  pub rules_in : (h : Head) (ρ : OutRule L) → IsRuleOf ranks D f g h ρ → Contains (head_rules ranks f g number look_number h) ρ
  rules_in identity ρ (k, lt, e) = subst (Contains (copies L 0 ranks)) (sym e) (copies_in 0 ranks k k lt (omega arith))
  rules_in (run q) ρ c = c

  module _ (names : List Triple) where
    mutual
      heads_stand : (z : Term Triple (L → L)) → ((d : Triple) (j : ℕ) → Occurs d j z → IsNamed ranks D f g names (head_for ranks f g number look_number d) d) → StandsFor (IsNamed ranks D f g names) D (with_heads ranks f g number look_number z) z
      heads_stand (on x j) named = (named x j (refl, refl), refl)
      heads_stand (build c m ps) named = (refl, (λ l d. refl), parts_stand ps named)

      parts_stand : (ps : Parts Triple (L → L)) → ((d : Triple) (j : ℕ) → OccursIn d j ps → IsNamed ranks D f g names (head_for ranks f g number look_number d) d) → StandFor (IsNamed ranks D f g names) D (parts_with_heads ranks f g number look_number ps) ps
      parts_stand no_parts named = tt
      parts_stand (part p ps) named = (heads_stand p (λ d j o. named d j (inl o)), parts_stand ps (λ d j o. named d j (inr o)))

    named_any : (h : Head) (x : Triple) → IsNamed ranks (λ l. l ≡ l) f g names h x → IsNamed ranks D f g names h x
    named_any identity x n = n
    named_any (run q) x n = n

    term_is : (p : Term Head (L → L)) (y : Option (Term Triple (L → L))) → AreCalled ranks f g number look_number names y → IsWayTerm ranks D f g names (out_term ranks f g number look_number p y) y
    term_is p None called = absurd called
    term_is p (Some z) called = heads_stand z (λ d j o. named_any (head_for ranks f g number look_number d) d (called d j o))

  module _ (into : List ℕ) (ok : SttrFits g into) where
    rules_for : {R : Type 0} (IsRule : R → OutRule L → Way L → Type 0) (make : OutRule L → Way L → R) (x : Triple) → AreStates g.looks x.all
        → ((ρ : OutRule L) → Contains (head_rules ranks f g number look_number x.first) ρ → (y : Way L) → Contains (ways g ρ.term x) y → IsRule (make ρ y) ρ y)
        → AreRulesFor ranks D f g IsRule (flat_map (λ ρ. map (make ρ) (ways g ρ.term x)) (head_rules ranks f g number look_number x.first)) x
    rules_for IsRule make x low is = record {
      only = λ r c. let (ρ, at, c') = of_flat (λ ρ. map (make ρ) (ways g ρ.term x)) (head_rules ranks f g number look_number x.first) r c in
          let (y, mine, e) = of_mapped (make ρ) (ways g ρ.term x) r c' in
          (ρ, rules_out x.first ρ at, ways g ρ.term x, ways_exact f g into ok D ρ.term x low, y, mine, subst (λ r. IsRule r ρ y) e (is ρ at y mine));
      all = λ ρ rule. let at = rules_in x.first ρ rule in (
        ways g ρ.term x,
        ways_exact f g into ok D ρ.term x low,
        λ y mine. inl (
          make ρ y,
          to_flat (λ ρ. map (make ρ) (ways g ρ.term x)) (head_rules ranks f g number look_number x.first) ρ (make ρ y) at (to_mapped (make ρ) (ways g ρ.term x) y mine),
          is ρ at y mine,
        ),
      );
    }

    copies_match : (looks : List LookName) (these : List ℕ → List LookName) → these [] ≡ [] → (ρs : List (Rule L)) → ((ρ : Rule L) → Contains ρs ρ → (j : ℕ) → AreNumbered ranks f g number look_number looks (these (get_or ρ.demands j []))) → Match (IsCopy ranks D f g looks these) (map (copied_rule ranks f g number look_number these) ρs) ρs
    copies_match looks these e ρs closed = (
      λ r c. let (ρ, at, is) = of_mapped (copied_rule ranks f g number look_number these) ρs r c in (ρ, at, subst (λ r. IsCopy ranks D f g looks these r ρ) is (copied_is looks these e ρ (closed ρ at))),
      λ ρ c. (copied_rule ranks f g number look_number these ρ, to_mapped (copied_rule ranks f g number look_number these) ρs ρ c, copied_is looks these e ρ (closed ρ c)),
    )

    look_rules_are : (looks : List LookName) (x : LookName) → LookNameFits f g x → IsLookClosed ranks f g number look_number looks x → AreLookRules ranks D f g looks (look_rules ranks f g number look_number x) x
    look_rules_are looks (of_first s) fits closed = copies_match looks firsts refl (rules_of f.looks s) closed
    look_rules_are looks (of_second s) fits closed = copies_match looks seconds refl (rules_of g.looks s) closed
    look_rules_are looks (middle q all) fits closed =
        rules_for (IsWayRule ranks D f g looks) (way_rule ranks f g number look_number) (record { first = run q; all = all; second = None }) fits.1 (λ ρ at y mine. way_rule_is looks ρ y (λ j. closed ρ at y mine j))

    pub closed_is_built : (looks : List LookName) (names : List Triple) → AreNames (LookNameFits f g) looks → AreNames (λ x. AreStates g.looks x.all) names
        → AreNames (IsLookClosed ranks f g number look_number looks) looks → AreNames (IsClosed ranks f g number look_number looks names) names → IsBuilt ranks D f g looks names (built_of ranks f g number look_number looks names)
    closed_is_built looks names fit low look_closed closed = record {
      look = record {
        each = λ i x at. subst (λ rs. AreLookRules ranks D f g looks rs x) (sym (mapped_at (look_rules ranks f g number look_number) looks i x at)) (look_rules_are looks x (fit i x at) (look_closed i x at));
        as_many = length-map looks (look_rules ranks f g number look_number);
      };
      each = λ i x at. subst (λ rs. AreOutRules ranks D f g looks names rs x) (sym (mapped_at (triple_rules ranks f g number look_number) names i x at))
          (rules_for (λ r ρ y. IsWayRule ranks D f g looks r.rule ρ y × IsWayTerm ranks D f g names r.term y.term) (out_rule ranks f g number look_number) x (low i x at)
          (λ ρ c y mine. let (numbered, called) = closed i x at ρ c y mine in (way_rule_is looks ρ y numbered, term_is names ρ.term y.term called)));
      as_many = length-map names (triple_rules ranks f g number look_number);
    }
