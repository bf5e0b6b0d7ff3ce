-- Rules picked for demanded states depend on the states as a set.
use Rattle.std.specs.Prelude.{⊤}
use Rattle.std.proofs.Common.{ℕ, zero, suc, ◌≡◌, ◌⊎◌, true, List, [], ◌∷◌, get_or, Contains, refl, sym, ap, subst, ◌∙◌, inl, inr, arith}
use Rattle.std.proofs.lemmas.Bool.{and_parts, and_from}
use Rattle.model_sta.specs.Automaton.{Rule, rules_of}
use Rattle.model_sta.specs.Sets.{Each}
use Rattle.sttr_theory.specs.Lists.{SameStates, IsOnce}
use Rattle.sttr_theory.specs.Covers.{Covers}
use Rattle.sttr_theory.specs.Ways.{Pick, fires, pick, picks_of}
use Rattle.sttr_theory.specs.Alike.{AlikePick}
use Rattle.sttr_theory.proofs.Members.{here, there, in_left, in_right, in_either, in_single, of_pairs, to_pairs}
use Rattle.sttr_theory.proofs.Each.{each_at, each_all}
use Rattle.sttr_theory.proofs.Accept.{bool_same}
use Rattle.sttr_theory.proofs.Once.{same_turned}

module _ {L : Type 0} where
  -- at this state's place stands this rule
  abbrev Zipped : List ℕ → List (Rule L) → ℕ → Rule L → Type 0
  Zipped [] rs w r = ⊥
  Zipped (s ∷ Z) [] w r = ⊥
  Zipped (s ∷ Z) (q ∷ rs) w r = ((s ≡ w) × (q ≡ r)) ⊎ Zipped Z rs w r

  zipped_state : (Z : List ℕ) (rs : List (Rule L)) (w : ℕ) (r : Rule L) → Zipped Z rs w r → Contains Z w
  zipped_state [] rs w r z = absurd z
  zipped_state (s ∷ Z) [] w r z = absurd z
  zipped_state (s ∷ Z) (q ∷ rs) w r (inl e) = subst (Contains (s ∷ Z)) e.0 (here s Z)
  zipped_state (s ∷ Z) (q ∷ rs) w r (inr z) = there s Z w (zipped_state Z rs w r z)

  zipped_rule : (Z : List ℕ) (rs : List (Rule L)) (w : ℕ) (r : Rule L) → Zipped Z rs w r → Contains rs r
  zipped_rule [] rs w r z = absurd z
  zipped_rule (s ∷ Z) [] w r z = absurd z
  zipped_rule (s ∷ Z) (q ∷ rs) w r (inl e) = subst (Contains (q ∷ rs)) e.1 (here q rs)
  zipped_rule (s ∷ Z) (q ∷ rs) w r (inr z) = there q rs r (zipped_rule Z rs w r z)

  -- a state that stands there once has one rule
  zipped_one : (Z : List ℕ) → IsOnce Z → (rs : List (Rule L)) (w : ℕ) (r q : Rule L) → Zipped Z rs w r → Zipped Z rs w q → r ≡ q
  zipped_one [] one rs w r q a b = absurd a
  zipped_one (s ∷ Z) one [] w r q a b = absurd a
  zipped_one (s ∷ Z) one (p ∷ rs) w r q (inl a) (inl b) = sym a.1 ∙ b.1
  zipped_one (s ∷ Z) one (p ∷ rs) w r q (inl a) (inr b) = absurd (one.0 (subst (Contains Z) (sym a.0) (zipped_state Z rs w q b)))
  zipped_one (s ∷ Z) one (p ∷ rs) w r q (inr a) (inl b) = absurd (one.0 (subst (Contains Z) (sym b.0) (zipped_state Z rs w r a)))
  zipped_one (s ∷ Z) one (p ∷ rs) w r q (inr a) (inr b) = zipped_one Z one.1 rs w r q a b

module _ {L : Type 0} (A : List (List (Rule L))) where
  -- a rule of each state
  abbrev Chosen : List ℕ → List (Rule L) → Type 0
  Chosen [] [] = ⊤
  Chosen [] (r ∷ rs) = ⊥
  Chosen (s ∷ Z) [] = ⊥
  Chosen (s ∷ Z) (r ∷ rs) = Contains (rules_of A s) r × Chosen Z rs

  chosen_rule : (Z : List ℕ) (rs : List (Rule L)) → Chosen Z rs → (w : ℕ) (r : Rule L) → Zipped Z rs w r → Contains (rules_of A w) r
  chosen_rule [] rs c w r z = absurd z
  chosen_rule (s ∷ Z) [] c w r z = absurd z
  chosen_rule (s ∷ Z) (q ∷ rs) c w r (inl e) = subst (λ n. Contains (rules_of A n) r) e.0 (subst (Contains (rules_of A s)) e.1 c.0)
  chosen_rule (s ∷ Z) (q ∷ rs) c w r (inr z) = chosen_rule Z rs c.1 w r z

  -- each state has one, and each rule is one of a state
  zipped_at : (Z : List ℕ) (rs : List (Rule L)) → Chosen Z rs → (w : ℕ) → Contains Z w → (r : Rule L) × Zipped Z rs w r
  zipped_at [] rs c w at = absurd (omega (arith, at.1))
  zipped_at (s ∷ Z) [] c w at = absurd c
  zipped_at (s ∷ Z) (q ∷ rs) c w (zero, lt, e) = (q, inl (e, refl))
  zipped_at (s ∷ Z) (q ∷ rs) c w (suc k, lt, e) = let (r, z) = zipped_at Z rs c.1 w (k, omega (arith, lt), e) in (r, inr z)

  zipped_of : (Z : List ℕ) (rs : List (Rule L)) → Chosen Z rs → (r : Rule L) → Contains rs r → (w : ℕ) × Zipped Z rs w r
  zipped_of [] [] c r at = absurd (omega (arith, at.1))
  zipped_of [] (q ∷ rs) c r at = absurd c
  zipped_of (s ∷ Z) [] c r at = absurd c
  zipped_of (s ∷ Z) (q ∷ rs) c r (zero, lt, e) = (s, inl (refl, e))
  zipped_of (s ∷ Z) (q ∷ rs) c r (suc k, lt, e) = let (w, z) = zipped_of Z rs c.1 r (k, omega (arith, lt), e) in (w, inr z)

  -- the same choice for other states that are among these
  module _ (Z : List ℕ) (rs : List (Rule L)) (c : Chosen Z rs) where
    again : (W : List ℕ) → ((w : ℕ) → Contains W w → Contains Z w) → (qs : List (Rule L)) × Chosen W qs × ((w : ℕ) (r : Rule L) → Zipped W qs w r → Zipped Z rs w r)
    again [] sub = ([], tt, λ w r z. absurd z)
    again (s ∷ W) sub =
        let (r, z) = zipped_at Z rs c s (sub s (here s W)) in
        let (qs, c', from) = again W (λ w at. sub w (there s W w at)) in
        (r ∷ qs, (chosen_rule Z rs c s r z, c'), λ w q z'. either s r qs z from w q z')
      where
        either : (s : ℕ) (r : Rule L) (qs : List (Rule L)) → Zipped Z rs s r → ((w : ℕ) (r : Rule L) → Zipped W qs w r → Zipped Z rs w r) → (w : ℕ) (q : Rule L) → Zipped (s ∷ W) (r ∷ qs) w q → Zipped Z rs w q
        either s r qs z from w q (inl e) = subst (λ n. Zipped Z rs n q) e.0 (subst (Zipped Z rs s) e.1 z)
        either s r qs z from w q (inr z') = from w q z'

  module _ (c : ℕ) where
    abbrev pub pick_all : List (Rule L) → Pick L
    pick_all [] = record { guard = λ l. true; wants = λ j. [] }
    pick_all (r ∷ rs) = pick c r (pick_all rs)

    picked_out : (Z : List ℕ) (x : Pick L) → Contains (picks_of A c Z) x → (rs : List (Rule L)) × Chosen Z rs × (pick_all rs ≡ x)
    picked_out [] x at = ([], tt, in_single (pick_all []) x at)
    picked_out (s ∷ Z) x at =
        let (r, mine, y, at', e) = of_pairs (pick c) (rules_of A s) (picks_of A c Z) x at in
        let (rs, chosen, e') = picked_out Z y at' in
        (r ∷ rs, (mine, chosen), ap (pick c r) e' ∙ e)

    picked_in : (Z : List ℕ) (rs : List (Rule L)) → Chosen Z rs → Contains (picks_of A c Z) (pick_all rs)
    picked_in [] [] chosen = here (pick_all []) []
    picked_in [] (r ∷ rs) chosen = absurd chosen
    picked_in (s ∷ Z) [] chosen = absurd chosen
    picked_in (s ∷ Z) (r ∷ rs) chosen = to_pairs (pick c) (rules_of A s) (picks_of A c Z) r (pick_all rs) chosen.0 (picked_in Z rs chosen.1)

    guard_out : (rs : List (Rule L)) (l : L) → (pick_all rs).guard l ≡ true → Each (λ r. fires r c l ≡ true) rs
    guard_out [] l h = tt
    guard_out (r ∷ rs) l h = let (a, b) = and_parts (fires r c l) ((pick_all rs).guard l) h in (a, guard_out rs l b)

    guard_in : (rs : List (Rule L)) (l : L) → Each (λ r. fires r c l ≡ true) rs → (pick_all rs).guard l ≡ true
    guard_in [] l e = refl
    guard_in (r ∷ rs) l e = and_from (fires r c l) ((pick_all rs).guard l) e.0 (guard_in rs l e.1)

    wants_out : (rs : List (Rule L)) (j s : ℕ) → Contains ((pick_all rs).wants j) s → (r : Rule L) × Contains rs r × Contains (get_or r.demands j []) s
    wants_out [] j s at = absurd (omega (arith, at.1))
    wants_out (r ∷ rs) j s at = either (λ at'. wants_out rs j s at') (in_either (get_or r.demands j []) ((pick_all rs).wants j) s at)
      where
        either : (Contains ((pick_all rs).wants j) s → (q : Rule L) × Contains rs q × Contains (get_or q.demands j []) s) → Contains (get_or r.demands j []) s ⊎ Contains ((pick_all rs).wants j) s → (q : Rule L) × Contains (r ∷ rs) q × Contains (get_or q.demands j []) s
        either later (inl a) = (r, here r rs, a)
        either later (inr a) = let (q, mine, a') = later a in (q, there r rs q mine, a')

    wants_in : (rs : List (Rule L)) (j s : ℕ) (r : Rule L) → Contains rs r → Contains (get_or r.demands j []) s → Contains ((pick_all rs).wants j) s
    wants_in [] j s r at a = absurd (omega (arith, at.1))
    wants_in (q ∷ rs) j s r (zero, lt, e) a = in_left (get_or q.demands j []) ((pick_all rs).wants j) s (subst (λ x. Contains (get_or x.demands j []) s) (sym e) a)
    wants_in (q ∷ rs) j s r (suc k, lt, e) a = in_right (get_or q.demands j []) ((pick_all rs).wants j) s (wants_in rs j s r (k, omega (arith, lt), e) a)

    -- the same rules
    module _ (D : L → Type 0) (rs qs : List (Rule L)) (to : (r : Rule L) → Contains rs r → Contains qs r) (fro : (r : Rule L) → Contains qs r → Contains rs r) where
      same_rules : AlikePick D (λ l. l) (pick_all rs) (pick_all qs)
      same_rules = record {
        same_guard = λ l d. bool_same ((pick_all rs).guard l) ((pick_all qs).guard l)
            (λ h. guard_in qs l (each_all (λ r. fires r c l ≡ true) qs (λ r at. each_at (λ r. fires r c l ≡ true) rs r (guard_out rs l h) (fro r at))))
            (λ h. guard_in rs l (each_all (λ r. fires r c l ≡ true) rs (λ r at. each_at (λ r. fires r c l ≡ true) qs r (guard_out qs l h) (to r at))));
        same_wants = λ j. (
          λ s at. let (r, mine, a) = wants_out rs j s at in wants_in qs j s r (to r mine) a,
          λ s at. let (r, mine, a) = wants_out qs j s at in wants_in rs j s r (fro r mine) a,
        );
      }

    -- one choice for Z is one for W, where each is there once
    module _ (D : L → Type 0) (Z W : List ℕ) (one : IsOnce Z) (same : SameStates Z W) where
      moved : (rs : List (Rule L)) → Chosen Z rs → (qs : List (Rule L)) × Chosen W qs × ((r : Rule L) → Contains rs r → Contains qs r) × ((r : Rule L) → Contains qs r → Contains rs r)
      moved rs chosen =
          let (qs, chosen', from) = again Z rs chosen W same.1 in (
            qs,
            chosen',
            (λ r at. let (w, z) = zipped_of Z rs chosen r at in
                let (q, z') = zipped_at W qs chosen' w (same.0 w (zipped_state Z rs w r z)) in
                subst (Contains qs) (zipped_one Z one rs w q r (from w q z') z) (zipped_rule W qs w q z')),
            (λ r at. let (w, z) = zipped_of W qs chosen' r at in zipped_rule Z rs w r (from w r z)),
          )

    -- picks for the same states cover each other
    pub picks_cover : (D : L → Type 0) (Z W : List ℕ) → IsOnce Z → IsOnce W → SameStates Z W → Covers (AlikePick D (λ l. l)) (λ z. ⊥) (picks_of A c Z) (picks_of A c W)
    picks_cover D Z W one one' same = record {
      only = λ x at. let (rs, chosen, e) = picked_out Z x at in
          let (qs, chosen', to, fro) = moved D Z W one same rs chosen in
          (pick_all qs, picked_in W qs chosen', subst (λ y. AlikePick D (λ l. l) y (pick_all qs)) e (same_rules D rs qs to fro));
      all = λ z at. let (rs, chosen, e) = picked_out W z at in
          let (qs, chosen', to, fro) = moved D W Z one' (same_turned Z W same) rs chosen in
          inl (pick_all qs, picked_in Z qs chosen', subst (AlikePick D (λ l. l) (pick_all qs)) e (same_rules D qs rs fro to));
    }
