-- Picks of rules for the same states, or for some of them.
use Rattle.std.proofs.Common.{ℕ, zero, suc, ◌≡◌, ◌<◌, ◌⊎◌, inl, inr, true, List, [], ◌∷◌, map, get_or, length, Contains, refl, sym, subst, ap, ◌∙◌, arith}
use Rattle.std.proofs.lemmas.Bool.{and_parts, and_from}
use Rattle.model_sta.specs.Automaton.{Rule, rules_of}
use Rattle.sttr_theory.specs.Lists.{SameStates}
use Rattle.sttr_theory.specs.Ways.{Pick, pick, picks_of, fires}
use Rattle.sttr_theory.proofs.Members.{here, there, in_either, in_left, in_right, to_mapped, of_mapped, to_flat, of_flat}
use Rattle.sttr_theory.proofs.Accept.{bool_same}
use Rattle.sttr_run.specs.Drafts.{AreAmong}
use Rattle.sttr_run.specs.Sets.{IsAscending}
use Rattle.sttr_run.proofs.Members.{nil_out, cons_out}

abbrev Distinct : List ℕ → Type 0
Distinct [] = Unit {0}
Distinct (s ∷ Z) = (Contains Z s → ⊥) × Distinct Z

tail_ascending : (s : ℕ) (Z : List ℕ) → IsAscending (s ∷ Z) → IsAscending Z
tail_ascending s Z asc i j l low = asc (suc i) (suc j) (omega (arith, l)) (omega (arith, low))

above : (s : ℕ) (Z : List ℕ) → IsAscending (s ∷ Z) → Contains Z s → ⊥
above s Z asc (k, low, is) = let less = asc zero (suc k) (omega arith) (omega (arith, low)) in let e : get_or Z k 0 ≡ s = same Z k s low is in absurd (omega (arith, less, e))
  where
    same : (Z : List ℕ) (k s : ℕ) → k < length Z → get_or Z k s ≡ s → get_or Z k 0 ≡ s
    same [] k s low is = absurd (omega (arith, low))
    same (t ∷ Z) zero s low is = is
    same (t ∷ Z) (suc k) s low is = same Z k s (omega (arith, low)) is

distinct : (Z : List ℕ) → IsAscending Z → Distinct Z
distinct [] asc = tt
distinct (s ∷ Z) asc = (above s Z asc, distinct Z (tail_ascending s Z asc))

module _ {L : Type 0} (looks : List (List (Rule L))) (c : ℕ) where
  -- one rule for each state
  abbrev Chosen : List ℕ → List (Rule L) → Type 0
  Chosen [] [] = Unit {0}
  Chosen [] (r ∷ rs) = ⊥
  Chosen (s ∷ Z) [] = ⊥
  Chosen (s ∷ Z) (r ∷ rs) = Contains (rules_of looks s) r × Chosen Z rs

  abbrev picked : List (Rule L) → Pick L
  picked [] = record { guard = λ l. true; wants = λ j. [] }
  picked (r ∷ rs) = pick c r (picked rs)

  in_picks : (Z : List ℕ) (p : Pick L) → Contains (picks_of looks c Z) p → (rs : List (Rule L)) × Chosen Z rs × (picked rs ≡ p)
  in_picks [] p at = ([], tt, elim (cons_out (picked []) [] p at) [ inl e ↦ e | inr none ↦ absurd (nil_out p none) ])
  in_picks (s ∷ Z) p at =
      let (r, in_rules, row) = of_flat (λ r. map (pick c r) (picks_of looks c Z)) (rules_of looks s) p at in
      let (q, in_q, e) = of_mapped (pick c r) (picks_of looks c Z) p row in
      let (rs, chosen, is) = in_picks Z q in_q in
      (r ∷ rs, (in_rules, chosen), ap (pick c r) is ∙ e)

  of_picks : (Z : List ℕ) (rs : List (Rule L)) → Chosen Z rs → Contains (picks_of looks c Z) (picked rs)
  of_picks [] [] chosen = here (picked []) []
  of_picks [] (r ∷ rs) chosen = absurd chosen
  of_picks (s ∷ Z) [] chosen = absurd chosen
  of_picks (s ∷ Z) (r ∷ rs) chosen = to_flat (λ r. map (pick c r) (picks_of looks c Z)) (rules_of looks s) r (pick c r (picked rs)) chosen.0 (to_mapped (pick c r) (picks_of looks c Z) (picked rs) (of_picks Z rs chosen.1))

  fires_each : (rs : List (Rule L)) (l : L) (r : Rule L) → (picked rs).guard l ≡ true → Contains rs r → fires r c l ≡ true
  fires_each [] l r h at = absurd (nil_out r at)
  fires_each (q ∷ rs) l r h at = let both = and_parts (fires q c l) ((picked rs).guard l) h in elim (cons_out q rs r at) [ inl e ↦ subst (λ x. fires x c l ≡ true) e both.0 | inr later ↦ fires_each rs l r both.1 later ]

  fires_all : (rs : List (Rule L)) (l : L) → ((r : Rule L) → Contains rs r → fires r c l ≡ true) → (picked rs).guard l ≡ true
  fires_all [] l f = refl
  fires_all (q ∷ rs) l f = and_from (fires q c l) ((picked rs).guard l) (f q (here q rs)) (fires_all rs l (λ r at. f r (there q rs r at)))

  wants_from : (rs : List (Rule L)) (j s : ℕ) → Contains ((picked rs).wants j) s → (r : Rule L) × Contains rs r × Contains (get_or r.demands j []) s
  wants_from [] j s at = absurd (nil_out s at)
  wants_from (q ∷ rs) j s at = elim (in_either (get_or q.demands j []) ((picked rs).wants j) s at) [
    | inl a ↦ (q, here q rs, a)
    | inr b ↦ (let (r, in_rs, a) = wants_from rs j s b in (r, there q rs r in_rs, a))
  ]

  wants_of_rule : (rs : List (Rule L)) (j s : ℕ) (r : Rule L) → Contains rs r → Contains (get_or r.demands j []) s → Contains ((picked rs).wants j) s
  wants_of_rule [] j s r at a = absurd (nil_out r at)
  wants_of_rule (q ∷ rs) j s r at a = elim (cons_out q rs r at) [
    | inl e ↦ in_left (get_or q.demands j []) ((picked rs).wants j) s (subst (λ x. Contains (get_or x.demands j []) s) (sym e) a)
    | inr later ↦ in_right (get_or q.demands j []) ((picked rs).wants j) s (wants_of_rule rs j s r later a)
  ]

  -- of fewer rules
  guard_less : (rs qs : List (Rule L)) → ((r : Rule L) → Contains rs r → Contains qs r) → (l : L) → (picked qs).guard l ≡ true → (picked rs).guard l ≡ true
  guard_less rs qs f l h = fires_all rs l (λ r at. fires_each qs l r h (f r at))

  wants_less : (rs qs : List (Rule L)) → ((r : Rule L) → Contains rs r → Contains qs r) → (j : ℕ) → AreAmong ((picked rs).wants j) ((picked qs).wants j)
  wants_less rs qs f j s at = let (r, in_rs, a) = wants_from rs j s at in wants_of_rule qs j s r (f r in_rs) a

  -- the rule at the state's place
  abbrev Paired : List ℕ → List (Rule L) → ℕ → Rule L → Type 0
  Paired [] rs s r = ⊥
  Paired (t ∷ Z) [] s r = ⊥
  Paired (t ∷ Z) (q ∷ rs) s r = ((t ≡ s) × (q ≡ r)) ⊎ Paired Z rs s r

  paired_in : (Z : List ℕ) (rs : List (Rule L)) (s : ℕ) (r : Rule L) → Paired Z rs s r → Contains Z s × Contains rs r
  paired_in [] rs s r p = absurd p
  paired_in (t ∷ Z) [] s r p = absurd p
  paired_in (t ∷ Z) (q ∷ rs) s r (inl e) = (subst (Contains (t ∷ Z)) e.0 (here t Z), subst (Contains (q ∷ rs)) e.1 (here q rs))
  paired_in (t ∷ Z) (q ∷ rs) s r (inr p) = let both = paired_in Z rs s r p in (there t Z s both.0, there q rs r both.1)

  paired_once : (Z : List ℕ) (rs : List (Rule L)) → Distinct Z → (s : ℕ) (r q : Rule L) → Paired Z rs s r → Paired Z rs s q → r ≡ q
  paired_once [] rs d s r q a b = absurd a
  paired_once (t ∷ Z) [] d s r q a b = absurd a
  paired_once (t ∷ Z) (x ∷ rs) d s r q (inl a) (inl b) = sym a.1 ∙ b.1
  paired_once (t ∷ Z) (x ∷ rs) d s r q (inl a) (inr b) = absurd (d.0 (subst (Contains Z) (sym a.0) (paired_in Z rs s q b).0))
  paired_once (t ∷ Z) (x ∷ rs) d s r q (inr a) (inl b) = absurd (d.0 (subst (Contains Z) (sym b.0) (paired_in Z rs s r a).0))
  paired_once (t ∷ Z) (x ∷ rs) d s r q (inr a) (inr b) = paired_once Z rs d.1 s r q a b

  at_state : (Z : List ℕ) (rs : List (Rule L)) (s : ℕ) → Chosen Z rs → Contains Z s → (r : Rule L) × Paired Z rs s r × Contains (rules_of looks s) r
  at_state [] rs s chosen at = absurd (nil_out s at)
  at_state (t ∷ Z) [] s chosen at = absurd chosen
  at_state (t ∷ Z) (q ∷ rs) s chosen at = elim (cons_out t Z s at) [
    | inl e ↦ (q, inl (e, refl), subst (λ x. Contains (rules_of looks x) q) e chosen.0)
    | inr later ↦ (let (r, p, in_rules) = at_state Z rs s chosen.1 later in (r, inr p, in_rules))
  ]

  at_rule : (Z : List ℕ) (rs : List (Rule L)) (r : Rule L) → Chosen Z rs → Contains rs r → (s : ℕ) × Paired Z rs s r
  at_rule [] [] r chosen at = absurd (nil_out r at)
  at_rule [] (q ∷ rs) r chosen at = absurd chosen
  at_rule (t ∷ Z) [] r chosen at = absurd chosen
  at_rule (t ∷ Z) (q ∷ rs) r chosen at = elim (cons_out q rs r at) [
    | inl e ↦ (t, inl (refl, e))
    | inr later ↦ (let (s, p) = at_rule Z rs r chosen.1 later in (s, inr p))
  ]

  module _ (Z : List ℕ) (rs : List (Rule L)) (chosen : Chosen Z rs) where
    -- each state with the rule that it has among others
    abbrev AllPaired : List ℕ → List (Rule L) → Type 0
    AllPaired [] [] = Unit {0}
    AllPaired [] (q ∷ qs) = ⊥
    AllPaired (s ∷ W) [] = ⊥
    AllPaired (s ∷ W) (q ∷ qs) = Paired Z rs s q × AllPaired W qs

    rechoose : (W : List ℕ) → AreAmong W Z → (qs : List (Rule L)) × Chosen W qs × AllPaired W qs
    rechoose [] among = ([], tt, tt)
    rechoose (s ∷ W) among =
        let (r, p, in_rules) = at_state Z rs s chosen (among s (here s W)) in
        let (qs, rest, paired) = rechoose W (λ t at. among t (there s W t at)) in
        (r ∷ qs, (in_rules, rest), (p, paired))

    among_rules : (W : List ℕ) (qs : List (Rule L)) → AllPaired W qs → (r : Rule L) → Contains qs r → Contains rs r
    among_rules [] [] a r at = absurd (nil_out r at)
    among_rules [] (q ∷ qs) a r at = absurd a
    among_rules (s ∷ W) [] a r at = absurd a
    among_rules (s ∷ W) (q ∷ qs) a r at = elim (cons_out q qs r at) [ inl e ↦ subst (Contains rs) e (paired_in Z rs s q a.0).1 | inr later ↦ among_rules W qs a.1 r later ]

    rule_of : (W : List ℕ) (qs : List (Rule L)) → AllPaired W qs → (s : ℕ) → Contains W s → (q : Rule L) × Paired Z rs s q × Contains qs q
    rule_of [] qs a s at = absurd (nil_out s at)
    rule_of (t ∷ W) [] a s at = absurd a
    rule_of (t ∷ W) (q ∷ qs) a s at = elim (cons_out t W s at) [
      | inl e ↦ (q, subst (λ x. Paired Z rs x q) e a.0, here q qs)
      | inr later ↦ (let (x, p, in_qs) = rule_of W qs a.1 s later in (x, p, there q qs x in_qs))
    ]

    all_rules : Distinct Z → (W : List ℕ) → AreAmong Z W → (qs : List (Rule L)) → AllPaired W qs → (r : Rule L) → Contains rs r → Contains qs r
    all_rules d W among qs a r at =
        let (s, p) = at_rule Z rs r chosen at in
        let (q, p', in_qs) = rule_of W qs a s (among s (paired_in Z rs s r p).0) in
        subst (Contains qs) (paired_once Z rs d s q r p' p) in_qs

  -- for the same states, however often, there is a pick that says the same
  pub pick_same : (Z W : List ℕ) → IsAscending Z → SameStates Z W → (p : Pick L) → Contains (picks_of looks c Z) p
      → (q : Pick L) × Contains (picks_of looks c W) q × ((l : L) → p.guard l ≡ q.guard l) × ((j : ℕ) → SameStates (p.wants j) (q.wants j))
  pick_same Z W asc same p at =
      let (rs, chosen, is) = in_picks Z p at in
      let (qs, rest, paired) = rechoose Z rs chosen W same.1 in
      let down = among_rules Z rs chosen W qs paired in
      let up = all_rules Z rs chosen (distinct Z asc) W same.0 qs paired in
      subst (λ p. (q : Pick L) × Contains (picks_of looks c W) q × ((l : L) → p.guard l ≡ q.guard l) × ((j : ℕ) → SameStates (p.wants j) (q.wants j))) is (
        picked qs,
        of_picks W qs rest,
        (λ l. bool_same ((picked rs).guard l) ((picked qs).guard l) (guard_less qs rs down l) (guard_less rs qs up l)),
        λ j. (wants_less rs qs up j, wants_less qs rs down j),
      )

  -- for fewer states there is one that follows
  pub pick_less : (Z W : List ℕ) → AreAmong Z W → (q : Pick L) → Contains (picks_of looks c W) q
      → (p : Pick L) × Contains (picks_of looks c Z) p × ((l : L) → q.guard l ≡ true → p.guard l ≡ true) × ((j : ℕ) → AreAmong (p.wants j) (q.wants j))
  pick_less Z W among q at =
      let (qs, chosen, is) = in_picks W q at in
      let (rs, rest, paired) = rechoose W qs chosen Z among in
      let down = among_rules W qs chosen Z rs paired in
      subst (λ q. (p : Pick L) × Contains (picks_of looks c Z) p × ((l : L) → q.guard l ≡ true → p.guard l ≡ true) × ((j : ℕ) → AreAmong (p.wants j) (q.wants j))) is (
        picked rs,
        of_picks Z rs rest,
        (λ l. guard_less rs qs down l),
        λ j. wants_less rs qs down j,
      )
