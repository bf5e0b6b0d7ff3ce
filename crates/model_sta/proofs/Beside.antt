-- The rules of two automata in one list accept what they did.
use Rattle.std.proofs.Common.{ℕ, zero, suc, ◌+◌, ◌-◌, ◌≡◌, ◌<◌, ◌≤◌, inl, inr, Bool, ◌&&◌, ◌||◌, ◌==◌, List, [], ◌∷◌, map, get_or, length, Contains, refl, sym, ap, ap₂, subst, ◌∙◌, arith}
use Rattle.std.proofs.lemmas.Bool.{cases_lt}
use Rattle.std.proofs.lemmas.List.{get_or_past}
use Rattle.std.specs.List.{list_any, list_all}
use Rattle.model_tree.specs.Tree.{Tree, node, Trees, no_trees, tree}
use Rattle.model_sta.specs.Automaton.{Rule, rules_of, is_accepted, meet_demands}
use Rattle.model_sta.specs.Operations.{AgreeIn}
use Rattle.model_sta.specs.Told.{AreTold, AreToldByEither, AgreeInBoth, moved, IsBeside, AreOwn}

module _ {X : Type 0} where
  first_in : (x : X) (xs : List X) → Contains (x ∷ xs) x
  first_in x xs = (0, omega arith, refl)

  later_in : (x y : X) (xs : List X) → Contains xs y → Contains (x ∷ xs) y
  later_in x y xs at = (suc at.0, omega (arith, at.1), at.2)

  -- no rule stands past the last state
  none_past : (xss : List (List X)) (q : ℕ) (x : X) → length xss ≤ q → Contains (get_or xss q []) x → ⊥
  none_past xss q x high at = let none : Contains [] x = subst (λ xs. Contains xs x) (get_or_past xss q [] high) at in absurd (omega (arith, none.1))

-- tests over a mapped list
module _ {X Y : Type 0} (p : Y → Bool) (f : X → Y) (q : X → Bool) where
  pub any_mapped : (xs : List X) → ((x : X) → Contains xs x → p (f x) ≡ q x) → list_any p (map f xs) ≡ list_any q xs
  any_mapped [] same = refl
  any_mapped (x ∷ xs) same = ap₂ (λ a b. a || b) (same x (first_in x xs)) (any_mapped xs (λ y at. same y (later_in x y xs at)))

  pub all_mapped : (xs : List X) → ((x : X) → Contains xs x → p (f x) ≡ q x) → list_all p (map f xs) ≡ list_all q xs
  all_mapped [] same = refl
  all_mapped (x ∷ xs) same = ap₂ (λ a b. a && b) (same x (first_in x xs)) (all_mapped xs (λ y at. same y (later_in x y xs at)))

module _ {X : Type 0} (p q : X → Bool) where
  any_same : (xs : List X) → ((x : X) → Contains xs x → p x ≡ q x) → list_any p xs ≡ list_any q xs
  any_same [] same = refl
  any_same (x ∷ xs) same = ap₂ (λ a b. a || b) (same x (first_in x xs)) (any_same xs (λ y at. same y (later_in x y xs at)))

  all_same : (xs : List X) → ((x : X) → Contains xs x → p x ≡ q x) → list_all p xs ≡ list_all q xs
  all_same [] same = refl
  all_same (x ∷ xs) same = ap₂ (λ a b. a && b) (same x (first_in x xs)) (all_same xs (λ y at. same y (later_in x y xs at)))

module _ {L : Type 0} (first second rules : List (List (Rule L))) (own_first : AreOwn first) (own_second : AreOwn second) (is : IsBeside first second rules) where
  abbrev Below : List (List (Rule L)) → List (List ℕ) → Type 0
  Below those ds = (j s : ℕ) → Contains (get_or ds j []) s → s < length those

  mutual
    pub first_accepts : (t : Tree L) (s : ℕ) → s < length first → is_accepted rules t s ≡ is_accepted first t s
    first_accepts (node c l ts) s low =
        ap (list_any (λ r. (r.constructor == c) && (r.guard l && meet_demands rules ts r.demands))) (is.firsts s low)
        ∙ any_same (λ r. (r.constructor == c) && (r.guard l && meet_demands rules ts r.demands)) (λ r. (r.constructor == c) && (r.guard l && meet_demands first ts r.demands)) (rules_of first s)
        (λ r at. ap (λ m. (r.constructor == c) && (r.guard l && m)) (first_meets ts r.demands (own_first s r at)))

    first_meets : (ts : Trees L) (ds : List (List ℕ)) → Below first ds → meet_demands rules ts ds ≡ meet_demands first ts ds
    first_meets no_trees ds own = refl
    first_meets (tree t ts) [] own = refl
    first_meets (tree t ts) (d ∷ ds) own =
        ap₂ (λ a b. a && b) (all_same (is_accepted rules t) (is_accepted first t) d (λ s at. first_accepts t s (own 0 s at))) (first_meets ts ds (λ j. own (suc j)))

  abbrev n : ℕ
  n = length first

  mutual
    pub second_accepts : (t : Tree L) (s : ℕ) → s < length second → is_accepted rules t (n + s) ≡ is_accepted second t s
    second_accepts (node c l ts) s low =
        ap (list_any (λ r. (r.constructor == c) && (r.guard l && meet_demands rules ts r.demands))) (is.seconds s low)
        ∙ any_mapped (λ r. (r.constructor == c) && (r.guard l && meet_demands rules ts r.demands)) (moved n) (λ r. (r.constructor == c) && (r.guard l && meet_demands second ts r.demands)) (rules_of second s)
        (λ r at. ap (λ m. (r.constructor == c) && (r.guard l && m)) (second_meets ts r.demands (own_second s r at)))

    second_meets : (ts : Trees L) (ds : List (List ℕ)) → Below second ds → meet_demands rules ts (map (map (λ s. n + s)) ds) ≡ meet_demands second ts ds
    second_meets no_trees ds own = refl
    second_meets (tree t ts) [] own = refl
    second_meets (tree t ts) (d ∷ ds) own =
        ap₂ (λ a b. a && b) (all_mapped (is_accepted rules t) (λ s. n + s) (is_accepted second t) d (λ s at. second_accepts t s (own 0 s at))) (second_meets ts ds (λ j. own (suc j)))

  -- what the list tells apart is told apart by a state of either
  pub told_by_either : (s t : Tree L) → AreTold rules s t → AreToldByEither first second s t
  told_by_either s t (q, low, told) =
      elim (cases_lt q n) [
        | inl below ↦ inl (q, below, λ e. told (first_accepts s q below ∙ e ∙ sym (first_accepts t q below)))
        | inr high ↦ (
            let k : ℕ = q - n in
            let k_low : k < length second = omega (arith, low, high, is.many) in
            let q_is : q ≡ n + k = omega (arith, high) in
            let same : (u : Tree L) → is_accepted rules u q ≡ is_accepted second u k = λ u. ap (is_accepted rules u) q_is ∙ second_accepts u k k_low in
            inr (k, k_low, λ e. told (same s ∙ e ∙ sym (same t))))
      ]

  moved_agrees : (l m : L) (rs : List (Rule L)) → ((r : Rule L) → Contains rs r → r.guard l ≡ r.guard m) → (k : ℕ) (p : Rule L) → k < length (map (moved n) rs) → get_or (map (moved n) rs) k p ≡ p → p.guard l ≡ p.guard m
  moved_agrees l m [] agree k p low at = absurd (omega (arith, low))
  moved_agrees l m (r ∷ rs) agree zero p low at = sym (ap (λ x. x.guard l) at) ∙ agree r (first_in r rs) ∙ ap (λ x. x.guard m) at
  moved_agrees l m (r ∷ rs) agree (suc k) p low at = moved_agrees l m rs (λ s here. agree s (later_in r s rs here)) k p (omega (arith, low)) at

  -- labels that agree on the guards of both agree on those of the list
  pub both_agree : (l m : L) → AgreeInBoth first second l m → AgreeIn rules l m
  both_agree l m (agree, other) q r at =
      elim (cases_lt q n) [
        | inl below ↦ agree q r (subst (λ rs. Contains rs r) (is.firsts q below) at)
        | inr high ↦ elim (cases_lt q (length rules)) [
          | inl low ↦ (
              let k : ℕ = q - n in
              let k_low : k < length second = omega (arith, low, high, is.many) in
              let q_is : q ≡ n + k = omega (arith, high) in
              let there : Contains (map (moved n) (rules_of second k)) r = subst (λ rs. Contains rs r) (ap (rules_of rules) q_is ∙ is.seconds k k_low) at in
              moved_agrees l m (rules_of second k) (other k) there.0 r there.1 there.2)
          | inr past ↦ absurd (none_past rules q r past at)
        ]
      ]
