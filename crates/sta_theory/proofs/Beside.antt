-- The states of two automata side by side accept what they did.
use Rattle.std.proofs.Common.{ℕ, zero, suc, ◌+◌, ◌≡◌, ◌<◌, inl, inr, Bool, true, ◌&&◌, ◌||◌, ◌==◌, List, [], ◌∷◌, map, get_or, length, Contains, refl, sym, ap, ap₂, subst, ◌∙◌, arith}
use Rattle.std.proofs.lemmas.Bool.{and_parts, and_from}
use Rattle.std.proofs.Math.ListN.{get_or-map}
use Rattle.std.specs.List.{list_any}
use Rattle.model_tree.specs.Tree.{Tree, node, Trees, no_trees, tree}
use Rattle.model_sta.specs.Automaton.{Rule, rules_of, is_accepted}
use Rattle.model_sta.specs.Sets.{Row, has, fires, rows_meet, set_of, sets_of}
use Rattle.model_sta.proofs.Sets.{set_is_accepted, width_sets}
use Rattle.model_sta.specs.Told.{AreOwn, moved, IsBeside}
use Rattle.sta_theory.specs.Beside.{HasBoth, IsBoth, ArePairs}
use Rattle.sta_theory.proofs.Lists.{bool_same, any_member, any_true, first_in, later_in, map_member, in_map}
use Rattle.sta_theory.proofs.Fires.{meets, meet, Fires, fires_from_test, test_from_fires, same_fires}

module _ {L : Type 0} (rules : List (List (Rule L))) where
  -- one of the rules applies to the tree
  abbrev pub some_apply : Tree L → List (Rule L) → Bool
  some_apply (node c l ts) rs = list_any (fires c l (sets_of rules ts)) rs

  pub has_some : (t : Tree L) (s : ℕ) → has (set_of rules t) s ≡ some_apply t (rules_of rules s)
  has_some (node c l ts) s = get_or-map (list_any (fires c l (sets_of rules ts))) rules s []

  pub accepted_some : (t : Tree L) (s : ℕ) → is_accepted rules t s ≡ some_apply t (rules_of rules s)
  accepted_some t s = sym (set_is_accepted rules t s) ∙ has_some t s

module _ {L : Type 0} (n : ℕ) (c : ℕ) (l : L) (qs ps : List Row) (long : length qs ≡ length ps) where
  -- sets ps have the states of qs n later, as far as the demands go
  abbrev Later : Rule L → Type 0
  Later r = (j : ℕ) → j < length qs → (s : ℕ) → Contains (get_or r.demands j []) s → has (get_or ps j []) (n + s) ≡ has (get_or qs j []) s

  -- demands that are moved
  in_moved : (ds : List (List ℕ)) (j s : ℕ) → Contains (get_or ds j []) s → Contains (get_or (map (map (λ s. n + s)) ds) j []) (n + s)
  in_moved ds j s at = subst (λ d. Contains d (n + s)) (sym (get_or-map (map (λ s. n + s)) ds j [])) (in_map (λ s. n + s) (get_or ds j []) s at)

  of_moved : (ds : List (List ℕ)) (j x : ℕ) → Contains (get_or (map (map (λ s. n + s)) ds) j []) x → (s : ℕ) × Contains (get_or ds j []) s × (n + s ≡ x)
  of_moved ds j x at = map_member (λ s. n + s) (get_or ds j []) x (subst (λ d. Contains d x) (get_or-map (map (λ s. n + s)) ds j []) at)

  moved_meets : (r : Rule L) → Later r → rows_meet ps (map (map (λ s. n + s)) r.demands) ≡ rows_meet qs r.demands
  moved_meets r later = bool_same _ _
      (λ h. meet qs r.demands (λ j low s at. sym (later j low s at) ∙ meets ps (map (map (λ s. n + s)) r.demands) h j (omega (arith, low, long)) (n + s) (in_moved r.demands j s at)))
      (λ h. meet ps (map (map (λ s. n + s)) r.demands) (λ j low x at.
      let (s, asked, is) = of_moved r.demands j x at in
      let low' : j < length qs = omega (arith, low, long) in
      subst (λ y. has (get_or ps j []) y ≡ true) is (later j low' s asked ∙ meets qs r.demands h j low' s asked)))

  pub moved_fires : (rs : List (Rule L)) → ((r : Rule L) → Contains rs r → Later r) → list_any (fires c l ps) (map (moved n) rs) ≡ list_any (fires c l qs) rs
  moved_fires [] later = refl
  moved_fires (r ∷ rs) later =
      ap₂ (λ x y. ((r.constructor == c) && (r.guard l && x)) || y) (moved_meets r (later r (first_in r rs))) (moved_fires rs (λ s at. later s (later_in r s rs at)))

pub has_both : {L : Type 0} {a b rules : List (List (Rule L))} → IsBeside a b rules → HasBoth a b rules
has_both is = record { firsts = is.firsts; seconds = is.seconds }

module _ {L : Type 0} (a b rules : List (List (Rule L))) (own_a : AreOwn a) (own_b : AreOwn b) (is : HasBoth a b rules) where
  -- the set of the tree has what its sets have for both automata
  pub record Sides (q p and_parts : Row) : Type 0 where
    pub firsts : (s : ℕ) → s < length a → has and_parts s ≡ has q s
    pub seconds : (s : ℕ) → s < length b → has and_parts (length a + s) ≡ has p s

  abbrev AllSides : Trees L → Type 0
  AllSides ts = (j : ℕ) → j < length (sets_of rules ts) → Sides (get_or (sets_of a ts) j []) (get_or (sets_of b ts) j []) (get_or (sets_of rules ts) j [])

  abbrev n : ℕ
  n = length a

  module _ (c : ℕ) (l : L) (ts : Trees L) (sides : AllSides ts) where
    long_a : length (sets_of a ts) ≡ length (sets_of rules ts)
    long_a = width_sets a ts ∙ sym (width_sets rules ts)

    long_b : length (sets_of b ts) ≡ length (sets_of rules ts)
    long_b = width_sets b ts ∙ sym (width_sets rules ts)

    firsts_fire : (s : ℕ) → list_any (fires c l (sets_of rules ts)) (rules_of a s) ≡ list_any (fires c l (sets_of a ts)) (rules_of a s)
    firsts_fire s = sym (same_fires (rules_of a s) c l (sets_of a ts) (sets_of rules ts) (long_a, λ j low x d. sym ((sides j (omega (arith, low, long_a))).firsts x (own_a s d.0 d.1 j x d.3))))

    seconds_fire : (s : ℕ) → list_any (fires c l (sets_of rules ts)) (map (moved n) (rules_of b s)) ≡ list_any (fires c l (sets_of b ts)) (rules_of b s)
    seconds_fire s = moved_fires n c l (sets_of b ts) (sets_of rules ts) long_b (rules_of b s) (λ r at j low x asked. (sides j (omega (arith, low, long_b))).seconds x (own_b s r at j x asked))

  mutual
    pub set_sides : (t : Tree L) → Sides (set_of a t) (set_of b t) (set_of rules t)
    set_sides (node c l ts) = record {
      firsts = λ s low. has_some rules (node c l ts) s ∙ ap (some_apply rules (node c l ts)) (is.firsts s low) ∙ firsts_fire c l ts (all_sides ts) s ∙ sym (has_some a (node c l ts) s);
      seconds = λ s low. has_some rules (node c l ts) (n + s) ∙ ap (some_apply rules (node c l ts)) (is.seconds s low) ∙ seconds_fire c l ts (all_sides ts) s ∙ sym (has_some b (node c l ts) s);
    }

    all_sides : (ts : Trees L) → AllSides ts
    all_sides no_trees j low = absurd (omega arith)
    all_sides (tree t ts) zero low = set_sides t
    all_sides (tree t ts) (suc j) low = all_sides ts j (omega arith)

  -- a state accepts what it did
  pub first_accepts : (t : Tree L) (s : ℕ) → s < length a → is_accepted rules t s ≡ is_accepted a t s
  first_accepts t s low = sym (set_is_accepted rules t s) ∙ (set_sides t).firsts s low ∙ set_is_accepted a t s

  pub second_accepts : (t : Tree L) (s : ℕ) → s < length b → is_accepted rules t (n + s) ≡ is_accepted b t s
  second_accepts t s low = sym (set_is_accepted rules t (n + s)) ∙ (set_sides t).seconds s low ∙ set_is_accepted b t s

  -- and so do the rules of a state where they are given to another one
  pub firsts_apply : (t : Tree L) (s : ℕ) → some_apply rules t (rules_of a s) ≡ is_accepted a t s
  firsts_apply (node c l ts) s = firsts_fire c l ts (all_sides ts) s ∙ sym (accepted_some a (node c l ts) s)

  pub seconds_apply : (t : Tree L) (s : ℕ) → some_apply rules t (map (moved n) (rules_of b s)) ≡ is_accepted b t s
  seconds_apply (node c l ts) s = seconds_fire c l ts (all_sides ts) s ∙ sym (accepted_some b (node c l ts) s)

-- rules of pairs
module _ {L : Type 0} (rs ss ps : List (Rule L)) (are : ArePairs rs ss ps) (c : ℕ) (l : L) (qs : List Row) where
  pair_fires : (r s p : Rule L) → IsBoth r s p → Fires c l qs r → Fires c l qs s → Fires c l qs p
  pair_fires r s p is f g = record {
    constructor_is = is.constructor_is ∙ f.constructor_is;
    guard_holds = is.guard_is l ∙ and_from (r.guard l) (s.guard l) f.guard_holds g.guard_holds;
    met = λ j low x at. elim ((is.demands_are j x).0 at) [ inl of_r ↦ f.met j low x of_r | inr of_s ↦ g.met j low x of_s ];
  }

  first_fires : (r s p : Rule L) → IsBoth r s p → Fires c l qs p → Fires c l qs r
  first_fires r s p is f = record {
    constructor_is = sym is.constructor_is ∙ f.constructor_is;
    guard_holds = (and_parts (r.guard l) (s.guard l) (sym (is.guard_is l) ∙ f.guard_holds)).0;
    met = λ j low x at. f.met j low x ((is.demands_are j x).1 (inl at));
  }

  second_fires : (r s p : Rule L) → r.constructor ≡ s.constructor → IsBoth r s p → Fires c l qs p → Fires c l qs s
  second_fires r s p same is f = record {
    constructor_is = sym same ∙ sym is.constructor_is ∙ f.constructor_is;
    guard_holds = (and_parts (r.guard l) (s.guard l) (sym (is.guard_is l) ∙ f.guard_holds)).1;
    met = λ j low x at. f.met j low x ((is.demands_are j x).1 (inr at));
  }

  to_both : list_any (fires c l qs) ps ≡ true → (list_any (fires c l qs) rs && list_any (fires c l qs) ss) ≡ true
  to_both h =
      let (p, at, holds) = any_member (fires c l qs) ps h in
      let (r, s, at_r, at_s, same, is) = are.sound p at in
      let f : Fires c l qs p = fires_from_test c l qs p holds in
      and_from (list_any (fires c l qs) rs) (list_any (fires c l qs) ss)
      (any_true (fires c l qs) rs r at_r (test_from_fires c l qs r (first_fires r s p is f)))
      (any_true (fires c l qs) ss s at_s (test_from_fires c l qs s (second_fires r s p same is f)))

  from_both : (list_any (fires c l qs) rs && list_any (fires c l qs) ss) ≡ true → list_any (fires c l qs) ps ≡ true
  from_both h =
      let (some_r, some_s) = and_parts (list_any (fires c l qs) rs) (list_any (fires c l qs) ss) h in
      let (r, at_r, holds_r) = any_member (fires c l qs) rs some_r in
      let (s, at_s, holds_s) = any_member (fires c l qs) ss some_s in
      let f : Fires c l qs r = fires_from_test c l qs r holds_r in
      let g : Fires c l qs s = fires_from_test c l qs s holds_s in
      let (p, at, is) = are.complete r s at_r at_s (f.constructor_is ∙ sym g.constructor_is) in
      any_true (fires c l qs) ps p at (test_from_fires c l qs p (pair_fires r s p is f g))

  -- one of them fires where one of each does
  pub pairs_fire : list_any (fires c l qs) ps ≡ (list_any (fires c l qs) rs && list_any (fires c l qs) ss)
  pairs_fire = bool_same _ _ to_both from_both
