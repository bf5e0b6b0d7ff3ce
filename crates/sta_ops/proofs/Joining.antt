-- The rules of both automata with a state behind them are those of a union or of an intersection.
use Rattle.std.proofs.Common.{ℕ, zero, suc, ◌≡◌, ◌+◌, ◌==◌, ◌&&◌, ◌↔◌, ◌⊎◌, inl, inr, Bool, true, false, List, [], ◌∷◌, ◌++◌, map, filter, get_or, length, Contains, refl, sym, ap, ap₂, subst, ◌∙◌, arith, eq-eqb}
use Rattle.std.proofs.lemmas.List.{length-map, length-append, length_push, map-append}
use Rattle.std.proofs.Math.ListN.{get_or-map}
use Rattle.model_tree.specs.Label.{Label}
use Rattle.model_sta.specs.Automaton.{Rule, rules_of}
use Rattle.model_sta.specs.Told.{moved as moved_rule}
use Rattle.sta_core.specs.Machine.{PlainRule}
use Rattle.sta_core.specs.Sta.{automaton_of, rule_meaning}
use Rattle.sta_core.specs.declared.Lang.{Lang}
use Rattle.sta_ops.specs.Languages.{auto_of}
use Rattle.sta_ops.specs.Rules.{moved, beside, joined, both, pairs_with, pairs, rules_at, with_either, with_pairs}
use Rattle.sta_ops.proofs.EachRule.{EachRule, each_at, each_moved, each_beside, each_more, pair_member}
use Rattle.sta_theory.specs.Beside.{IsBoth, ArePairs, HasStart, IsEither, IsPaired}
use Rattle.sta_theory.proofs.Lists.{none_in, append_member, in_left, in_right, map_member, in_map, in_flat, in_filter}
use Rattle.sta_theory.proofs.Placed.{placed, has_start, start_is}

-- what the places of two lists contain together
joined_at : (ds es : List (List ℕ)) (j x : ℕ) → Contains (get_or (joined ds es) j []) x ↔ (Contains (get_or ds j []) x ⊎ Contains (get_or es j []) x)
joined_at [] es j x = (λ h. inr h, λ h. elim h [ inl a ↦ absurd (none_in x a) | inr b ↦ b ])
joined_at (d ∷ ds) [] j x = (λ h. inl h, λ h. elim h [ inl a ↦ a | inr b ↦ absurd (none_in x b) ])
joined_at (d ∷ ds) (e ∷ es) zero x = (λ h. append_member d e x h, λ h. elim h [ inl a ↦ in_left d e x a | inr b ↦ in_right d e x b ])
joined_at (d ∷ ds) (e ∷ es) (suc j) x = joined_at ds es j x

module _ {A : Type 0} (holds : A → Label → Bool) where
  abbrev meant : PlainRule A → Rule Label
  meant = rule_meaning holds

  -- moved rules mean moved rules
  moved_meant : (n : ℕ) (rs : List (PlainRule A)) → map meant (map (moved n) rs) ≡ map (moved_rule n) (map meant rs)
  moved_meant n [] = refl
  moved_meant n (r ∷ rs) = ap (λ z. meant (moved n r) ∷ z) (moved_meant n rs)

  all_moved_meant : (n : ℕ) (rules : List (List (PlainRule A))) → map (map meant) (map (map (moved n)) rules) ≡ map (map (moved_rule n)) (map (map meant) rules)
  all_moved_meant n [] = refl
  all_moved_meant n (rs ∷ rules) = ap₂ (λ x y. x ∷ y) (moved_meant n rs) (all_moved_meant n rules)

  pub beside_meant : (first second : List (List (PlainRule A))) → map (map meant) (beside first second) ≡ placed (map (map meant) first) (map (map meant) second)
  beside_meant first second =
      map-append (map meant) first (map (map (moved (length first))) second)
      ∙ ap (λ z. map (map meant) first ++ z) (all_moved_meant (length first) second ∙ ap (λ n. map (map (moved_rule n)) (map (map meant) second)) (sym (length-map first (map meant))))

  abbrev rules_in : Lang A → List (PlainRule A)
  rules_in a = rules_at a.sta.rules a.state

  at_state : (a : Lang A) → map meant (rules_in a) ≡ rules_of (automaton_of holds a.sta) a.state
  at_state a = sym (get_or-map (map meant) a.sta.rules a.state [])

  module _ (a b c : Lang A) (start : List (PlainRule A)) (are : c.sta.rules ≡ beside a.sta.rules b.sta.rules ++ start ∷ []) (at : c.state ≡ length a.sta.rules + length b.sta.rules) where
    abbrev n : ℕ
    n = length (automaton_of holds a.sta)

    rules_are : automaton_of holds c.sta ≡ placed (automaton_of holds a.sta) (automaton_of holds b.sta) ++ map meant start ∷ []
    rules_are = ap (map (map meant)) are ∙ map-append (map meant) (beside a.sta.rules b.sta.rules) (start ∷ []) ∙ ap (λ z. z ++ map meant start ∷ []) (beside_meant a.sta.rules b.sta.rules)

    state_is : c.state ≡ length (automaton_of holds a.sta) + length (automaton_of holds b.sta)
    state_is = at ∙ sym (ap₂ (λ x y. x + y) (length-map a.sta.rules (map meant)) (length-map b.sta.rules (map meant)))

    starts : HasStart (auto_of holds a) (auto_of holds b) (auto_of holds c)
    starts = has_start (auto_of holds a) (auto_of holds b) (auto_of holds c) (map meant start) rules_are state_is

    pub start_meant : rules_of (automaton_of holds c.sta) c.state ≡ map meant start
    start_meant = start_is (auto_of holds a) (auto_of holds b) (auto_of holds c) (map meant start) rules_are state_is

    second_moved : map meant (map (moved (length a.sta.rules)) (rules_in b)) ≡ map (moved_rule n) (rules_of (automaton_of holds b.sta) b.state)
    second_moved = moved_meant (length a.sta.rules) (rules_in b) ∙ ap₂ (λ k rs. map (moved_rule k) rs) (sym (length-map a.sta.rules (map meant))) (at_state b)

  pub is_either : (a b c : Lang A) → c.sta.rules ≡ with_either a b → c.state ≡ length a.sta.rules + length b.sta.rules → IsEither (auto_of holds a) (auto_of holds b) (auto_of holds c)
  is_either a b c are at =
      let start : List (PlainRule A) = rules_in a ++ map (moved (length a.sta.rules)) (rules_in b) in
      record {
        has_start = starts a b c start are at;
        rules_are = start_meant a b c start are at ∙ map-append meant (rules_in a) (map (moved (length a.sta.rules)) (rules_in b)) ∙ ap₂ (λ x y. x ++ y) (at_state a) (second_moved a b c start are at);
      }

  and_true : (x : Bool) → (x && true) ≡ x
  and_true true = refl
  and_true false = refl

  both_is : (r s : PlainRule A) → IsBoth (meant r) (meant s) (meant (both r s))
  both_is r s = record { constructor_is = refl; guard_is = λ l. ap (λ z. (meant r).guard l && z) (and_true ((meant s).guard l)); demands_are = joined_at r.demands s.demands }

  pub are_pairs : (rs ss : List (PlainRule A)) → ArePairs (map meant rs) (map meant ss) (map meant (pairs rs ss))
  are_pairs rs ss = record {
    sound = λ p at.
        let (q, at_q, is_q) = map_member meant (pairs rs ss) p at in
        let (r, at_r, s, at_s, same, is) = pair_member rs ss q at_q in
        (meant r, meant s, in_map meant rs r at_r, in_map meant ss s at_s, sym same, subst (IsBoth (meant r) (meant s)) (ap meant is ∙ is_q) (both_is r s));
    complete = λ x y at_x at_y same.
        let (r, at_r, is_r) = map_member meant rs x at_x in
        let (s, at_s, is_s) = map_member meant ss y at_y in
        let alike : s.constructor ≡ r.constructor = ap (λ z. z.constructor) is_s ∙ sym same ∙ sym (ap (λ z. z.constructor) is_r) in
        let kept : Contains (filter (λ z. z.constructor == r.constructor) ss) s = in_filter (λ z. z.constructor == r.constructor) ss s at_s (eq-eqb s.constructor r.constructor alike) in
        let there : Contains (pairs rs ss) (both r s) = in_flat (λ z. pairs_with z ss) rs r (both r s) at_r (in_map (both r) (filter (λ z. z.constructor == r.constructor) ss) s kept) in
        (meant (both r s), in_map meant (pairs rs ss) (both r s) there, subst (λ z. IsBoth z y (meant (both r s))) is_r (subst (λ z. IsBoth (meant r) z (meant (both r s))) is_s (both_is r s)));
  }

  pub is_paired : (a b c : Lang A) → c.sta.rules ≡ with_pairs a b → c.state ≡ length a.sta.rules + length b.sta.rules → IsPaired (auto_of holds a) (auto_of holds b) (auto_of holds c)
  is_paired a b c are at =
      let second : List (PlainRule A) = map (moved (length a.sta.rules)) (rules_in b) in
      let start : List (PlainRule A) = pairs (rules_in a) second in
      record {
        has_start = starts a b c start are at;
        rules_are = subst (ArePairs (rules_of (automaton_of holds a.sta) a.state) (map (moved_rule (length (automaton_of holds a.sta))) (rules_of (automaton_of holds b.sta) b.state))) (sym (start_meant a b c start are at))
            (subst (λ z. ArePairs z (map (moved_rule (length (automaton_of holds a.sta))) (rules_of (automaton_of holds b.sta) b.state)) (map meant start)) (at_state a)
            (subst (λ z. ArePairs (map meant (rules_in a)) z (map meant start)) (second_moved a b c start are at) (are_pairs (rules_in a) second)));
      }

-- what holds of each rule
module _ {A : Type 0} (Q R S : PlainRule A → Type 0) (a b : Lang A) (here : (r : PlainRule A) → Q r → S r) (there : (r : PlainRule A) → R r → S (moved (length a.sta.rules) r)) (qs : EachRule Q a.sta.rules) (rs : EachRule R b.sta.rules) where
  at_first : (r : PlainRule A) → Contains (rules_at a.sta.rules a.state) r → S r
  at_first r at = here r (each_at Q a.sta.rules qs a.state r at)

  at_second : (r : PlainRule A) → Contains (map (moved (length a.sta.rules)) (rules_at b.sta.rules b.state)) r → S r
  at_second = each_moved R S (length a.sta.rules) there (rules_at b.sta.rules b.state) (each_at R b.sta.rules rs b.state)

  pub each_either : EachRule S (with_either a b)
  each_either =
      each_more S (beside a.sta.rules b.sta.rules) (rules_at a.sta.rules a.state ++ map (moved (length a.sta.rules)) (rules_at b.sta.rules b.state)) (each_beside Q R S a.sta.rules b.sta.rules here there qs rs)
      (λ r at. elim (append_member (rules_at a.sta.rules a.state) (map (moved (length a.sta.rules)) (rules_at b.sta.rules b.state)) r at) [ inl x ↦ at_first r x | inr y ↦ at_second r y ])

  pub each_pairs : ((r s : PlainRule A) → s.constructor ≡ r.constructor → S r → S s → S (both r s)) → EachRule S (with_pairs a b)
  each_pairs two =
      each_more S (beside a.sta.rules b.sta.rules) (pairs (rules_at a.sta.rules a.state) (map (moved (length a.sta.rules)) (rules_at b.sta.rules b.state))) (each_beside Q R S a.sta.rules b.sta.rules here there qs rs)
      (λ p at.
      let (r, at_r, s, at_s, same, is) = pair_member (rules_at a.sta.rules a.state) (map (moved (length a.sta.rules)) (rules_at b.sta.rules b.state)) p at in
      subst S is (two r s same (at_first r at_r) (at_second s at_s)))

module _ {A : Type 0} (a b : Lang A) where
  pub either_long : length (with_either a b) ≡ suc (length a.sta.rules + length b.sta.rules)
  either_long = omega (arith, length_push (beside a.sta.rules b.sta.rules) (rules_at a.sta.rules a.state ++ map (moved (length a.sta.rules)) (rules_at b.sta.rules b.state)), beside_long)
    where
      beside_long : length (beside a.sta.rules b.sta.rules) ≡ length a.sta.rules + length b.sta.rules
      beside_long = length-append a.sta.rules (map (map (moved (length a.sta.rules))) b.sta.rules) ∙ ap (λ n. length a.sta.rules + n) (length-map b.sta.rules (map (moved (length a.sta.rules))))

  pub pairs_long : length (with_pairs a b) ≡ suc (length a.sta.rules + length b.sta.rules)
  pairs_long = omega (arith, length_push (beside a.sta.rules b.sta.rules) (pairs (rules_at a.sta.rules a.state) (map (moved (length a.sta.rules)) (rules_at b.sta.rules b.state))), beside_long)
    where
      beside_long : length (beside a.sta.rules b.sta.rules) ≡ length a.sta.rules + length b.sta.rules
      beside_long = length-append a.sta.rules (map (map (moved (length a.sta.rules))) b.sta.rules) ∙ ap (λ n. length a.sta.rules + n) (length-map b.sta.rules (map (moved (length a.sta.rules))))
