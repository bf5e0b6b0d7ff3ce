-- "Not s" accepts a tree exactly where s does not.
use Rattle.std.proofs.Common.{ℕ, zero, suc, ◌≡◌, ◌<◌, ◌≤◌, inl, inr, Bool, true, false, not, cond, List, [], get_or, length, Contains, refl, sym, ap, subst, ◌∙◌, arith}
use Rattle.std.proofs.lemmas.Bool.{cases_lt}
use Rattle.std.specs.List.{list_any}
use Rattle.model_tree.specs.Tree.{Tree, node, Trees, no_trees, tree}
use Rattle.model_sta.specs.Automaton.{Rule, rules_of, is_accepted}
use Rattle.model_sta.specs.Sets.{Row, has, fires, set_of, sets_of, Each, Fits, FitsAll}
use Rattle.model_sta.specs.Reached.{IsComplete}
use Rattle.model_sta.proofs.Sets.{set_is_accepted, width_sets}
use Rattle.sta_theory.specs.Kinds.{IsDemanded}
use Rattle.model_sta.specs.Told.{AreOwn}
use Rattle.sta_theory.specs.Opposite.{IsMetBefore, IsAsked, AnswerAlike, signed, IsOpposite, AreOpposites, IsDoubled}
use Rattle.sta_theory.proofs.Lists.{bool_same, not_true, not_false, any_member, any_true}
use Rattle.sta_theory.proofs.Fires.{Fires, fires_from_test, test_from_fires, same_fires}
use Rattle.sta_theory.proofs.Beside.{some_apply, has_some}

-- ---- sets that answer alike let the same rules fire

module _ {L : Type 0} (rs : List (Rule L)) (c : ℕ) (l : L) (qs us : List Row) (alike : AnswerAlike rs c qs us) where
  fires_there : (r : Rule L) → Contains rs r → Fires c l qs r → Fires c l us r
  fires_there r at f = record {
    constructor_is = f.constructor_is;
    guard_holds = f.guard_holds;
    met = λ j low s d.
        let here : j < length qs = omega (arith, low, alike.0) in
        sym (alike.1 j here s (r, at, f.constructor_is, (λ i before x e. f.met i (omega (arith, before, here)) x e), d)) ∙ f.met j here s d;
  }

  -- place by place, what us meet qs meet
  met_before : (r : Rule L) → Contains rs r → Fires c l us r → (j : ℕ) → j ≤ length qs → IsMetBefore j qs r
  met_before r at f zero low i before s d = absurd (omega arith)
  met_before r at f (suc j) low i before s d = elim (cases_lt i j) [
    | inl sooner ↦ met_before r at f j (omega arith) i sooner s d
    | inr here ↦ alike.1 i (omega arith) s (r, at, f.constructor_is, subst (λ k. IsMetBefore k qs r) (let e : j ≡ i = omega arith in e) (met_before r at f j (omega arith)), d) ∙ f.met i (omega (arith, before, low, alike.0)) s d
  ]

  fires_here : (r : Rule L) → Contains rs r → Fires c l us r → Fires c l qs r
  fires_here r at f = record { constructor_is = f.constructor_is; guard_holds = f.guard_holds; met = λ j low s d. met_before r at f (length qs) (omega arith) j low s d }

  pub alike_fire : list_any (fires c l qs) rs ≡ list_any (fires c l us) rs
  alike_fire = bool_same _ _
      (λ h. let (r, at, holds) = any_member (fires c l qs) rs h in any_true (fires c l us) rs r at (test_from_fires c l us r (fires_there r at (fires_from_test c l qs r holds))))
      (λ h. let (r, at, holds) = any_member (fires c l us) rs h in any_true (fires c l qs) rs r at (test_from_fires c l qs r (fires_here r at (fires_from_test c l us r holds))))

-- ---- sets with the opposites beside

-- p has the states of q below n, and "not s" for each other one
pub record Doubles (opp : ℕ → ℕ) (n : ℕ) (q p : Row) : Type 0 where
  pub old : (s : ℕ) → s < n → has p s ≡ has q s
  pub new : (s : ℕ) → s < n → has p (opp s) ≡ not (has q s)

module _ (opp : ℕ → ℕ) (n s : ℕ) (low : s < n) (q p : Row) (d : Doubles opp n q p) where
  -- what a sign asks of such a set
  asked : (sign : Bool) → has p (cond sign s (opp s)) ≡ true → has q s ≡ sign
  asked true h = sym (d.old s low) ∙ h
  asked false h = not_true (has q s) (sym (d.new s low) ∙ h)

  given : (sign : Bool) → has q s ≡ sign → has p (cond sign s (opp s)) ≡ true
  given true h = d.old s low ∙ h
  given false h = d.new s low ∙ not_false (has q s) h

module _ {L : Type 0} (opp : ℕ → ℕ) (n : ℕ) (rs : List (Rule L)) (own : (c j s : ℕ) → IsDemanded rs c j s → s < n) (c : ℕ) (l : L) (us ps : List Row) (long : length us ≡ length ps)
    (doubles : (j : ℕ) → j < length us → Doubles opp n (get_or us j []) (get_or ps j [])) where
  -- the same rules fire
  pub same_below : list_any (fires c l ps) rs ≡ list_any (fires c l us) rs
  same_below = sym (same_fires rs c l us ps (long, λ j low s d. sym ((doubles j low).old s (own c j s d))))

  own_asked : (qs : List Row) (j s : ℕ) → IsAsked rs c qs j s → s < n
  own_asked qs j s a = own c j s (a.0, a.1, a.2, a.4)

  -- a rule for sets whose demands are met is for sets that answer alike
  answers_met : (qs : List Row) (r : Rule L) → IsOpposite opp rs c qs r → length qs ≡ length us → Fires c l ps r → AnswerAlike rs c qs us
  answers_met qs r is wide f = (
    wide,
    λ j low s a.
        let at : j < length us = omega (arith, low, wide) in
        let x : ℕ = signed opp (has (get_or qs j []) s) s in
        sym (asked opp n s (own_asked qs j s a) (get_or us j []) (get_or ps j []) (doubles j at) (has (get_or qs j []) s) (f.met j (omega (arith, at, long)) x ((is.demands_are j low x).1 (s, a, refl)))),
  )

  none_fires : (qs : List Row) (r : Rule L) → IsOpposite opp rs c qs r → length qs ≡ length us → Fires c l ps r → list_any (fires c l us) rs ≡ false
  none_fires qs r is wide f = sym (alike_fire rs c l qs us (answers_met qs r is wide f)) ∙ not_true (list_any (fires c l qs) rs) (sym (is.guard_is l) ∙ f.guard_holds)

  -- a rule for sets that answer alike fires where none of rs does
  one_fires : (qs : List Row) (r : Rule L) → IsOpposite opp rs c qs r → AnswerAlike rs c qs us → list_any (fires c l us) rs ≡ false → Fires c l ps r
  one_fires qs r is alike none = record {
    constructor_is = is.constructor_is;
    guard_holds = is.guard_is l ∙ not_false (list_any (fires c l qs) rs) (alike_fire rs c l qs us alike ∙ none);
    met = λ j low x at.
        let low_u : j < length us = omega (arith, low, long) in
        let low_q : j < length qs = omega (arith, low_u, alike.0) in
        let (s, a, e) = (is.demands_are j low_q x).0 at in
        ap (has (get_or ps j [])) e ∙ given opp n s (own_asked qs j s a) (get_or us j []) (get_or ps j []) (doubles j low_u) (has (get_or qs j []) s) (sym (alike.1 j low_q s a));
  }

  module _ (ranks : List ℕ) (known : List Row) (those : List (Rule L)) (are : AreOpposites opp rs ranks known those) where
    all_none : length us ≡ get_or ranks c 0 → list_any (fires c l ps) those ≡ true → not (list_any (fires c l us) rs) ≡ true
    all_none wide h =
        let (r, at, holds) = any_member (fires c l ps) those h in
        let f : Fires c l ps r = fires_from_test c l ps r holds in
        let (b, qs, long_q, is) = are.sound r at in
        let bc : b ≡ c = sym is.constructor_is ∙ f.constructor_is in
        not_false (list_any (fires c l us) rs)
        (none_fires qs r (subst (λ k. IsOpposite opp rs k qs r) bc is) (long_q ∙ ap (λ k. get_or ranks k 0) bc ∙ sym wide) f)

    none_one : c < length ranks → Each (Contains known) us → length us ≡ get_or ranks c 0 → not (list_any (fires c l us) rs) ≡ true → list_any (fires c l ps) those ≡ true
    none_one low each wide h =
        let none = not_true (list_any (fires c l us) rs) h in
        let (r, at, qs, is, alike) = are.complete c low us each wide l none in
        any_true (fires c l ps) those r at (test_from_fires c l ps r (one_fires qs r is alike none))

    pub opposite_fires : c < length ranks → Each (Contains known) us → length us ≡ get_or ranks c 0 → list_any (fires c l ps) those ≡ not (list_any (fires c l us) rs)
    opposite_fires low each wide = bool_same _ _ (all_none wide) (none_one low each wide)

-- s is the opposite of "not s", so nothing new is needed for the complement of a complement
pub opposite_back : (opp : ℕ → ℕ) (n s : ℕ) → s < n → (q p : Row) → Doubles opp n q p → has p s ≡ not (has p (opp s))
opposite_back opp n s low q p d = d.old s low ∙ twice (has q s) ∙ sym (ap not (d.new s low))
  where
    twice : (b : Bool) → b ≡ not (not b)
    twice true = refl
    twice false = refl

-- ---- trees

module _ {L : Type 0} (opp : ℕ → ℕ) (ranks : List ℕ) (D : L → Type 0) (known : List Row) (rules doubled : List (List (Rule L))) (own : AreOwn rules) (complete : IsComplete ranks D rules known)
    (is : IsDoubled opp ranks known rules doubled) where
  abbrev n : ℕ
  n = length rules

  abbrev AllDouble : Trees L → Type 0
  AllDouble ts = (j : ℕ) → j < length (sets_of rules ts) → Doubles opp n (get_or (sets_of rules ts) j []) (get_or (sets_of doubled ts) j [])

  sets_known : (ts : Trees L) → FitsAll ranks D ts → Each (Contains known) (sets_of rules ts)
  sets_known no_trees f = tt
  sets_known (tree t ts) f = (complete t f.0, sets_known ts f.1)

  module _ (c : ℕ) (l : L) (ts : Trees L) (fits : Fits ranks D (node c l ts)) (doubles : AllDouble ts) where
    long : length (sets_of rules ts) ≡ length (sets_of doubled ts)
    long = width_sets rules ts ∙ sym (width_sets doubled ts)

    own_at : (s c j x : ℕ) → IsDemanded (rules_of rules s) c j x → x < n
    own_at s c j x d = own s d.0 d.1 j x d.3

    old_part : (s : ℕ) → s < n → has (set_of doubled (node c l ts)) s ≡ has (set_of rules (node c l ts)) s
    old_part s low =
        has_some doubled (node c l ts) s ∙ ap (some_apply doubled (node c l ts)) (is.same s low)
        ∙ same_below opp n (rules_of rules s) (own_at s) c l (sets_of rules ts) (sets_of doubled ts) long doubles
        ∙ sym (has_some rules (node c l ts) s)

    fresh_part : (s : ℕ) → AreOpposites opp (rules_of rules s) ranks known (rules_of doubled (opp s)) → has (set_of doubled (node c l ts)) (opp s) ≡ not (has (set_of rules (node c l ts)) s)
    fresh_part s are =
        has_some doubled (node c l ts) (opp s)
        ∙ opposite_fires opp n (rules_of rules s) (own_at s) c l (sets_of rules ts) (sets_of doubled ts) long doubles ranks known (rules_of doubled (opp s)) are fits.0 (sets_known ts fits.3) (width_sets rules ts ∙ fits.2)
        ∙ ap not (sym (has_some rules (node c l ts) s))

    pub node_doubles : Doubles opp n (set_of rules (node c l ts)) (set_of doubled (node c l ts))
    node_doubles = record {
      old = old_part;
      new = λ s low. elim (is.opposite s low) [
        | inl reused ↦ old_part (opp s) reused.0 ∙ reused.1 (set_of rules (node c l ts)) (complete (node c l ts) fits)
        | inr fresh ↦ fresh_part s fresh
      ];
    }

  mutual
    pub set_doubles : (t : Tree L) → Fits ranks D t → Doubles opp n (set_of rules t) (set_of doubled t)
    set_doubles (node c l ts) f = node_doubles c l ts f (all_double ts f.3)

    all_double : (ts : Trees L) → FitsAll ranks D ts → AllDouble ts
    all_double no_trees f j low = absurd (omega arith)
    all_double (tree t ts) f zero low = set_doubles t f.0
    all_double (tree t ts) f (suc j) low = all_double ts f.1 j (omega arith)

  -- the states accept what they did
  pub old_accepts : (t : Tree L) → Fits ranks D t → (s : ℕ) → s < n → is_accepted doubled t s ≡ is_accepted rules t s
  old_accepts t f s low = sym (set_is_accepted doubled t s) ∙ (set_doubles t f).old s low ∙ set_is_accepted rules t s

  -- and "not s" accepts the others
  pub not_accepts : (t : Tree L) → Fits ranks D t → (s : ℕ) → s < n → is_accepted doubled t (opp s) ≡ not (is_accepted rules t s)
  not_accepts t f s low = sym (set_is_accepted doubled t (opp s)) ∙ (set_doubles t f).new s low ∙ ap not (set_is_accepted rules t s)
