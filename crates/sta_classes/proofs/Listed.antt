-- Trees over lists of kinds stand for all trees.
use Rattle.std.proofs.Common.{ℕ, zero, suc, ◌≡◌, ◌<◌, ◌≤◌, ◌⊎◌, inl, inr, List, [], ◌∷◌, map, get_or, length, Contains, refl, sym, ap, subst, ◌∙◌, arith}
use Rattle.std.proofs.lemmas.List.{length-map}
use Rattle.model_tree.specs.Tree.{Tree, node, Trees, node_count}
use Rattle.model_sta.specs.Automaton.{Rule}
use Rattle.model_sta.specs.Sets.{Each, has, step, set_of, width, Fits}
use Rattle.model_sta.specs.Least.{total, Found, rows_of, counts_of, rows_at, nodes_at, cost, IsLeast}
use Rattle.model_sta.proofs.Sets.{width_sets}
use Rattle.model_sta.proofs.Least.{Numbers, found_by_roots}
use Rattle.sta_theory.specs.Kinds.{OneKind, OneKinds}
use Rattle.sta_classes.specs.Listed.{AreCheapest, CostsOverKinds}
use Rattle.sta_theory.proofs.Fires.{Chosen, choose, step_same_kinds}

total_less : (f : ℕ → ℕ) (xs ys : List ℕ) → length xs ≡ length ys → ((j : ℕ) → j < length xs → f (get_or ys j 0) ≤ f (get_or xs j 0)) → total (map f ys) ≤ total (map f xs)
total_less f [] [] e h = omega arith
total_less f [] (y ∷ ys) e h = absurd (omega (arith, e))
total_less f (x ∷ xs) [] e h = absurd (omega (arith, e))
total_less f (x ∷ xs) (y ∷ ys) e h = omega (arith, h 0 (omega arith), total_less f xs ys (omega (arith, e)) (λ j low. h (suc j) (omega arith)))

pub map_at : {X Y : Type 0} (f : X → Y) (xs : List X) (j : ℕ) (d : X) (e : Y) → j < length xs → get_or (map f xs) j e ≡ f (get_or xs j d)
map_at f [] j d e low = absurd (omega arith)
map_at f (x ∷ xs) zero d e low = refl
map_at f (x ∷ xs) (suc j) d e low = map_at f xs j d e (omega arith)

total_has : (f : ℕ → ℕ) (ks : List ℕ) (k i : ℕ) → i < length ks → get_or ks i k ≡ k → f k ≤ total (map f ks)
total_has f [] k i low e = absurd (omega arith)
total_has f (x ∷ ks) k zero low e = omega (arith, ap f e)
total_has f (x ∷ ks) k (suc i) low e = omega (arith, total_has f ks k i (omega arith) e)

-- a node over a class costs no less than it, so that classes are found in the order of their counts
pub cost_above : {L : Type 0} (found : List (Found L)) (cap k : ℕ) (ks : List ℕ) → Contains ks k → get_or (counts_of found) k 0 ≤ cap → get_or (counts_of found) k 0 ≤ cost cap (nodes_at found ks)
cost_above found cap k ks at low = omega (arith, low, total_has (λ i. get_or (counts_of found) i 0) ks k at.0 at.1 at.2)

module _ {L : Type 0} (cap : ℕ) (ranks : List ℕ) (D : L → Type 0) (rules : List (List (Rule L))) (found : List (Found L)) (listed : ℕ → ℕ → List ℕ) (m : ℕ)
    (least : Each (IsLeast cap ranks D rules) found) (are : AreCheapest rules ranks found listed) (costs : CostsOverKinds rules ranks found listed cap D m) where
  abbrev Stands : ℕ → ℕ → ℕ → ℕ → Type 0
  Stands c j k i = Contains (listed c j) i × OneKind rules c j (get_or (rows_of found) k []) (get_or (rows_of found) i []) × (get_or (counts_of found) i 0 ≤ get_or (counts_of found) k 0)

  -- classes that are listed, of the kinds of these
  stand : (c : ℕ) → c < length ranks → (ks : List ℕ) → length ks ≡ get_or ranks c 0 → Each (λ k. k < length found) ks → (is : List ℕ) × Chosen 0 0 (Stands c) ks is
  stand c low ks wide lows = choose 0 0 (λ k. k < length found) (Stands c) ks (λ j k within k_low. (let (i, at, same, less) = are.cheapest c j k low (omega (arith, within, wide)) k_low in (i, (at, same, less)))) lows

  kinds : (c : ℕ) (ks is : List ℕ) → Chosen 0 0 (Stands c) ks is → OneKinds rules c (rows_at found ks) (rows_at found is)
  kinds c ks is h =
      let wide_k : length (rows_at found ks) ≡ length ks = length-map ks (λ k. get_or (rows_of found) k []) in
      let wide_i : length (rows_at found is) ≡ length is = length-map is (λ k. get_or (rows_of found) k []) in (
        wide_k ∙ h.0 ∙ sym wide_i,
        λ j within t s d.
            let low_k : j < length ks = omega (arith, within, wide_k) in
            ap (λ q. has q s) (map_at (λ k. get_or (rows_of found) k []) ks j 0 [] low_k) ∙ (h.1 j low_k).1 t s d
            ∙ sym (ap (λ q. has q s) (map_at (λ k. get_or (rows_of found) k []) is j 0 [] (omega (arith, low_k, h.0)))),
      )

  root : (c : ℕ) (l : L) (ts : Trees L) → c < length ranks → D l → width ts ≡ get_or ranks c 0 → Numbers rules found ts → Contains (rows_of found) (set_of rules (node c l ts)) ⊎ (m ≤ node_count (node c l ts))
  root c l ts low given wide numbers =
      let (ks, lows, are_sets, few) = numbers in
      let n : length ks ≡ get_or ranks c 0 = sym (length-map ks (λ k. get_or (rows_of found) k [])) ∙ ap length are_sets ∙ width_sets rules ts ∙ wide in
      let (is, h) = stand c low ks n lows in
      let same : step rules c l (rows_at found is) ≡ set_of rules (node c l ts) = sym (step_same_kinds rules c l (rows_at found ks) (rows_at found is) (kinds c ks is h)) ∙ ap (step rules c l) are_sets in
      let less : total (nodes_at found is) ≤ total (nodes_at found ks) = total_less (λ k. get_or (counts_of found) k 0) ks is h.0 (λ j l'. (h.1 j l').2) in
      elim (costs c low is (sym h.0 ∙ n, λ j l'. (h.1 j (omega (arith, l', h.0))).0) l given) [
        | inl at ↦ inl (subst (Contains (rows_of found)) same at)
        | inr high ↦ inr (omega (arith, high, less, few))
      ]

  -- each tree has a found set, or at least m nodes
  pub found_or_large : (t : Tree L) → Fits ranks D t → Contains (rows_of found) (set_of rules t) ⊎ (m ≤ node_count t)
  found_or_large = found_by_roots cap ranks D rules found m least root
