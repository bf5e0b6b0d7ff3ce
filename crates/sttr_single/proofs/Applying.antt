-- To which trees joints apply.
use Rattle.std.proofs.Common.{ℕ, zero, suc, ◌≡◌, ◌<◌, ◌≤◌, ◌==◌, ◌&&◌, inl, inr, Bool, true, false, List, [], ◌∷◌, ◌++◌, map, get_or, length, refl, sym, ap, ap₂, subst, ◌∙◌, arith, eqb-true}
use Rattle.std.proofs.lemmas.Bool.{and_parts}
use Rattle.std.specs.List.{list_any, list_all}
use Rattle.std.proofs.lemmas.List.{get_or_past, length-map}
use Rattle.model_tree.specs.Label.{Label}
use Rattle.model_tree.specs.Tree.{Tree, node, Trees, no_trees, tree}
use Rattle.model_tree.specs.Formula.{Formula, formula_holds}
use Rattle.model_sta.specs.Automaton.{Rule, rules_of, is_accepted, meet_demands, rule_applies}
use Rattle.model_sta.specs.Sets.{Fits, width}
use Rattle.sta_core.specs.Machine.{Machine, PlainRule}
use Rattle.sta_core.specs.Sta.{automaton_of, rule_meaning}
use Rattle.sta_theory.proofs.Lists.{all_member}
use Rattle.sttr_single.specs.Joints.{HasHigh, both_hold, AreApart, joined_at, AreNowhere, IsJoint, NeverMeet}

and_true : (x : Bool) → (x && true) ≡ x
and_true true = refl
and_true false = refl

-- both of two pairs
both_pairs : (a b x y : Bool) → ((a && b) && (x && y)) ≡ ((a && x) && (b && y))
both_pairs true true x y = refl
both_pairs true false true y = refl
both_pairs true false false y = refl
both_pairs false b x y = refl

all_of_both : {X : Type 0} (p : X → Bool) (xs ys : List X) → list_all p (xs ++ ys) ≡ (list_all p xs && list_all p ys)
all_of_both p [] ys = refl
all_of_both p (x ∷ xs) ys = ap (λ b. p x && b) (all_of_both p xs ys) ∙ joined (p x) (list_all p xs) (list_all p ys)
  where
    joined : (a b c : Bool) → (a && (b && c)) ≡ ((a && b) && c)
    joined true b c = refl
    joined false b c = refl

module _ {L : Type 0} (rules : List (List (Rule L))) where
  -- whether each child is accepted by what is demanded at its place
  abbrev meets : Trees L → (ℕ → List ℕ) → Bool
  meets no_trees f = true
  meets (tree t ts) f = list_all (is_accepted rules t) (f 0) && meets ts (λ j. f (suc j))

  none_met : (ts : Trees L) → meets ts (λ j. []) ≡ true
  none_met no_trees = refl
  none_met (tree t ts) = none_met ts

  by_places : (ts : Trees L) (ds : List (List ℕ)) → meet_demands rules ts ds ≡ meets ts (λ j. get_or ds j [])
  by_places no_trees ds = refl
  by_places (tree t ts) [] = sym (none_met ts)
  by_places (tree t ts) (d ∷ ds) = ap (λ b. list_all (is_accepted rules t) d && b) (by_places ts ds)

  meets_both : (ts : Trees L) (f g h : ℕ → List ℕ) → ((j : ℕ) → j < width ts → h j ≡ f j ++ g j) → meets ts h ≡ (meets ts f && meets ts g)
  meets_both no_trees f g h is = refl
  meets_both (tree t ts) f g h is =
      ap₂ (λ a b. a && b) (ap (list_all (is_accepted rules t)) (is 0 (omega arith)) ∙ all_of_both (is_accepted rules t) (f 0) (g 0)) (meets_both ts (λ j. f (suc j)) (λ j. g (suc j)) (λ j. h (suc j)) (λ j low. is (suc j) (omega (arith, low))))
      ∙ both_pairs (list_all (is_accepted rules t) (f 0)) (list_all (is_accepted rules t) (g 0)) (meets ts (λ j. f (suc j))) (meets ts (λ j. g (suc j)))

  places_same : (ts : Trees L) (f g : ℕ → List ℕ) → ((j : ℕ) → j < width ts → f j ≡ g j) → meets ts f ≡ meets ts g
  places_same no_trees f g h = refl
  places_same (tree t ts) f g h = ap₂ (λ d b. list_all (is_accepted rules t) d && b) (h 0 (omega arith)) (places_same ts (λ j. f (suc j)) (λ j. g (suc j)) (λ j low. h (suc j) (omega (arith, low))))

  -- what accepts a tree is a state
  accepting_low : (t : Tree L) (s : ℕ) → is_accepted rules t s ≡ true → length rules ≤ s → ⊥
  accepting_low (node c l ts) s e high =
      let none : list_any (λ r. (r.constructor == c) && (r.guard l && meet_demands rules ts r.demands)) (rules_of rules s) ≡ false = ap (list_any (λ r. (r.constructor == c) && (r.guard l && meet_demands rules ts r.demands))) (get_or_past rules s [] high) in
      absurd (cc)

  met_low : (ts : Trees L) (f : ℕ → List ℕ) → meets ts f ≡ true → (j : ℕ) → j < width ts → HasHigh (length rules) (f j) → ⊥
  met_low no_trees f e j low high = absurd (omega (arith, low))
  met_low (tree t ts) f e zero low (x, at, past) = accepting_low t x (all_member (is_accepted rules t) (f 0) x at (and_parts (list_all (is_accepted rules t) (f 0)) (meets ts (λ j. f (suc j))) e).0) past
  met_low (tree t ts) f e (suc j) low high = met_low ts (λ j. f (suc j)) (and_parts (list_all (is_accepted rules t) (f 0)) (meets ts (λ j. f (suc j))) e).1 j (omega (arith, low)) high

-- where both of two rules apply
by_parts : (a a' x y m n : Bool) → ((a && (x && m)) && (a' && (y && n))) ≡ ((a && a') && ((x && y) && (m && n)))
by_parts true true true y true n = refl
by_parts true true true true false n = refl
by_parts true true true false false n = refl
by_parts true true false y m n = refl
by_parts true false true y true n = refl
by_parts true false true y false n = refl
by_parts true false false y m n = refl
by_parts false a' x y m n = refl

module _ {A : Type 0} (holds : A → Label → Bool) (looks : Machine A) (r s : PlainRule A) where
  abbrev rules : List (List (Rule Label))
  rules = automaton_of holds looks

  abbrev holds_at : Label → Formula A → Bool
  holds_at l f = formula_holds (λ a. holds a l) f

  abbrev apply_both : Tree Label → Bool
  apply_both t = rule_applies rules t (rule_meaning holds r) && rule_applies rules t (rule_meaning holds s)

  -- what both of two rules of one constructor say of a node
  both_say : (c : ℕ) (l : Label) (ts : Trees Label) → apply_both (node c l ts) ≡ (((r.constructor == c) && (s.constructor == c)) && (holds_at l (both_hold r.guard s.guard) && meets rules ts (joined_at r s)))
  both_say c l ts =
      by_parts (r.constructor == c) (s.constructor == c) (holds_at l r.guard) (holds_at l s.guard) (meet_demands rules ts r.demands) (meet_demands rules ts s.demands)
      ∙ ap₂ (λ g m. ((r.constructor == c) && (s.constructor == c)) && (g && m)) (ap (λ z. holds_at l r.guard && z) (sym (and_true (holds_at l s.guard))))
      (ap₂ (λ a b. a && b) (by_places rules ts r.demands) (by_places rules ts s.demands) ∙ sym (meets_both rules ts (λ j. get_or r.demands j []) (λ j. get_or s.demands j []) (joined_at r s) (λ j low. refl)))

  -- what they say where both apply
  record BothSay (c : ℕ) (l : Label) (ts : Trees Label) : Type 0 where
    first : r.constructor ≡ c
    second : s.constructor ≡ c
    guards : holds_at l (both_hold r.guard s.guard) ≡ true
    demands : meets rules ts (joined_at r s) ≡ true

  said : (c : ℕ) (l : Label) (ts : Trees Label) → apply_both (node c l ts) ≡ true → BothSay c l ts
  said c l ts e =
      let (constructors, rest) = and_parts ((r.constructor == c) && (s.constructor == c)) (holds_at l (both_hold r.guard s.guard) && meets rules ts (joined_at r s)) (sym (both_say c l ts) ∙ e) in
      let (one, other) = and_parts (r.constructor == c) (s.constructor == c) constructors in
      let (guards, demands) = and_parts (holds_at l (both_hold r.guard s.guard)) (meets rules ts (joined_at r s)) rest in
      record { first = eqb-true r.constructor c one; second = eqb-true s.constructor c other; guards = guards; demands = demands }

  module _ (D : Label → Type 0) where
    -- rules of other constructors never meet
    pub never_other : ¬ (s.constructor ≡ r.constructor) → NeverMeet r s looks holds D
    never_other other (node c l ts) fits e = let x = said c l ts e in other (x.second ∙ sym x.first)

    -- nor do those whose guards are apart
    pub never_apart : AreApart holds D r.guard s.guard → NeverMeet r s looks holds D
    never_apart apart (node c l ts) fits e = apart l fits.1 (said c l ts e).guards

    -- nor those that are for no node or child of the type
    pub never_nowhere : AreNowhere r s looks → NeverMeet r s looks holds D
    never_nowhere (inl high) (node c l ts) fits e = absurd (omega (arith, high, fits.0, (said c l ts e).first))
    never_nowhere (inr (j, low, high)) (node c l ts) fits e =
        let x = said c l ts e in
        let many : width ts ≡ get_or looks.ranks r.constructor 0 = fits.2 ∙ ap (λ k. get_or looks.ranks k 0) (sym x.first) in
        met_low rules ts (joined_at r s) x.demands j (omega (arith, low, many)) (subst (λ n. HasHigh n (joined_at r s j)) (sym (length-map looks.rules (map (rule_meaning holds)))) high)

    -- a joint applies where both rules do
    pub joint_applies_as : (p : PlainRule A) → IsJoint r s looks p → (t : Tree Label) → Fits looks.ranks D t → rule_applies rules t (rule_meaning holds p) ≡ apply_both t
    joint_applies_as p is (node c l ts) fits = by (p.constructor == c) refl ∙ sym (both_say c l ts)
      where
        alike : ((r.constructor == c) && (s.constructor == c)) ≡ (p.constructor == c)
        alike = ap₂ (λ a b. (a == c) && (b == c)) (sym is.constructor_is) (is.same ∙ sym is.constructor_is) ∙ itself (p.constructor == c)
          where
            itself : (b : Bool) → (b && b) ≡ b
            itself true = refl
            itself false = refl

        by : (b : Bool) → (p.constructor == c) ≡ b → ((p.constructor == c) && (holds_at l p.guard && meet_demands rules ts p.demands)) ≡ (((r.constructor == c) && (s.constructor == c)) && (holds_at l (both_hold r.guard s.guard) && meets rules ts (joined_at r s)))
        by true e =
            let many : width ts ≡ get_or looks.ranks r.constructor 0 = fits.2 ∙ ap (λ k. get_or looks.ranks k 0) (sym (eqb-true p.constructor c e) ∙ is.constructor_is) in
            ap₂ (λ g m. (p.constructor == c) && (holds_at l g && m)) is.guard_is (by_places rules ts p.demands ∙ meets_same ts many)
            ∙ ap (λ b. b && (holds_at l (both_hold r.guard s.guard) && meets rules ts (joined_at r s))) (sym alike)
          where
            meets_same : (us : Trees Label) → width us ≡ get_or looks.ranks r.constructor 0 → meets rules us (λ j. get_or p.demands j []) ≡ meets rules us (joined_at r s)
            meets_same us many = places_same rules us (λ j. get_or p.demands j []) (joined_at r s) (λ j low. is.demands_are.joined.each j (omega (arith, low, many)))
        by false e =
            ap (λ b. b && (holds_at l p.guard && meet_demands rules ts p.demands)) e
            ∙ ap (λ b. b && (holds_at l (both_hold r.guard s.guard) && meets rules ts (joined_at r s))) (sym (alike ∙ e))
