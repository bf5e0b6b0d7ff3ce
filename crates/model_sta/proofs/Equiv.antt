-- The test and the fact say the same.
use Rattle.std.proofs.Common.{◌≡◌, ℕ, zero, suc, ◌<◌, Bool, true, false, ◌&&◌, ◌||◌, ◌==◌, List, [], ◌∷◌, length, All, refl, ◌∙◌, ap, arith}
use Rattle.std.proofs.lemmas.Bool.{and_parts, and_from, or_left, or_right}
use Rattle.std.specs.Prelude.{Contains, slice_index_or}
use Rattle.std.specs.List.{list_any, list_all}
use Rattle.std.proofs.lemmas.Bool.Decides.{nat_tests}
use Rattle.std.proofs.lemmas.List.Elements.{All-nil, All-cons}
use Rattle.model_tree.specs.Tree.{Tree, node, Trees, no_trees, tree}
use Rattle.model_sta.specs.Automaton.{Rule, rules_of, is_accepted, meet_demands}
use Rattle.model_sta.specs.Accepts.{Accepts, MeetDemands}

same_number : (m n : ℕ) → (m == n) ≡ true → m ≡ n
same_number m n h = grind (arith, nat_tests)

number_same : (m n : ℕ) → m ≡ n → (m == n) ≡ true
number_same m n h = grind (arith, nat_tests)

module _ {X : Type 0} (p : X → Bool) where
  step : (x : X) (xs : List X) → (list_any p xs ≡ true → (y : X) × Contains xs y × (p y ≡ true)) → (b : Bool) → p x ≡ b → (b || list_any p xs) ≡ true → (y : X) × Contains (x ∷ xs) y × (p y ≡ true)
  step x xs ih true e h = (x, (0, omega arith, refl), e)
  step x xs ih false e h = let r = ih h in (r.0, (suc r.1.0, omega (arith, r.1.1), r.1.2), r.2)

  found : (xs : List X) → list_any p xs ≡ true → (x : X) × Contains xs x × (p x ≡ true)
  found [] h = cc
  found (x ∷ xs) h = step x xs (found xs) (p x) refl h

  any_from : (xs : List X) (k : ℕ) (x : X) → k < length xs → slice_index_or xs k x ≡ x → p x ≡ true → list_any p xs ≡ true
  any_from [] k x l e h = absurd (omega arith)
  any_from (y ∷ ys) zero x l e h = or_left (p y) (list_any p ys) (ap p e ∙ h)
  any_from (y ∷ ys) (suc k) x l e h = or_right (p y) (list_any p ys) (any_from ys k x (omega arith) e h)

  all_from_test : (P : X → Type 0) → ((x : X) → p x ≡ true → P x) → (xs : List X) → list_all p xs ≡ true → All P xs
  all_from_test P f [] h = All-nil P
  all_from_test P f (x ∷ xs) h = let b = and_parts (p x) (list_all p xs) h in All-cons P x xs (f x b.0) (all_from_test P f xs b.1)

  test_from_all : (P : X → Type 0) → ((x : X) → P x → p x ≡ true) → (xs : List X) → All P xs → list_all p xs ≡ true
  test_from_all P f [] h = refl
  test_from_all P f (x ∷ xs) h = and_from (p x) (list_all p xs) (f x (h 0 x (omega arith))) (test_from_all P f xs (λ k d l. h (suc k) d (omega (arith, l))))

module _ {A : Type 0} (rules : List (List (Rule A))) where
  mutual
    pub accepts_from_test : (t : Tree A) (s : ℕ) → is_accepted rules t s ≡ true → Accepts rules t s
    accepts_from_test (node c l ts) s h =
        let f = found (λ r. (r.constructor == c) && (r.guard l && meet_demands rules ts r.demands)) (rules_of rules s) h in
        let a = and_parts (f.0.constructor == c) (f.0.guard l && meet_demands rules ts f.0.demands) f.2 in
        let b = and_parts (f.0.guard l) (meet_demands rules ts f.0.demands) a.1 in
        (f.0, f.1, same_number f.0.constructor c a.0, b.0, demands_from_test ts f.0.demands b.1)

    pub demands_from_test : (ts : Trees A) (ds : List (List ℕ)) → meet_demands rules ts ds ≡ true → MeetDemands rules ts ds
    demands_from_test no_trees ds h = tt
    demands_from_test (tree t ts) [] h = tt
    demands_from_test (tree t ts) (d ∷ ds) h =
        let b = and_parts (list_all (is_accepted rules t) d) (meet_demands rules ts ds) h in
        (all_from_test (is_accepted rules t) (Accepts rules t) (λ s. accepts_from_test t s) d b.0, demands_from_test ts ds b.1)

  mutual
    pub test_from_accepts : (t : Tree A) (s : ℕ) → Accepts rules t s → is_accepted rules t s ≡ true
    test_from_accepts (node c l ts) s (r, k, e, g, m) =
        any_from (λ r. (r.constructor == c) && (r.guard l && meet_demands rules ts r.demands)) (rules_of rules s) k.0 r k.1 k.2
        (and_from (r.constructor == c) (r.guard l && meet_demands rules ts r.demands) (number_same r.constructor c e) (and_from (r.guard l) (meet_demands rules ts r.demands) g (test_from_demands ts r.demands m)))

    pub test_from_demands : (ts : Trees A) (ds : List (List ℕ)) → MeetDemands rules ts ds → meet_demands rules ts ds ≡ true
    test_from_demands no_trees ds m = refl
    test_from_demands (tree t ts) [] m = refl
    test_from_demands (tree t ts) (d ∷ ds) m =
        and_from (list_all (is_accepted rules t) d) (meet_demands rules ts ds) (test_from_all (is_accepted rules t) (Accepts rules t) (λ s. test_from_accepts t s) d m.0) (test_from_demands ts ds m.1)
