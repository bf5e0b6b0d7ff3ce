-- How many trees contexts tell apart pairwise.
use Rattle.std.proofs.Common.{ℕ, zero, suc, ◌≡◌, ◌<◌, ◌≤◌, ◌+◌, inl, inr, Bool, true, false, List, [], ◌∷◌, ◌++◌, length, map, All, refl, sym, ap, subst, ◌∙◌, arith, eqb-true, ne_eqb}
use Rattle.std.proofs.lemmas.Bool.{or_cases}
use Rattle.std.proofs.lemmas.List.{length-map}
use Rattle.std.proofs.lemmas.List.Elements.{All-nil, All-cons, All-head, All-tail}
use Rattle.std.proofs.lemmas.Map.Steps.{length-le_from_distinct_below}
use Rattle.std.specs.List.{IsDistinct, list_any, AllByRecursion}
use Rattle.std.proofs.Math.Dec.{eqb}
use Rattle.model_tree.specs.Tree.{Tree, trees_of}
use Rattle.model_sta.specs.Sets.{Fits, FitsAll}
use Rattle.model_sta.specs.Contexts.{Context, hole, around, filled}
use Rattle.model_sta.specs.EachTwo.{EachTwo}
use Rattle.sta_theory.specs.Contexts.{AreToldApart, AreAllToldApart, IsCount}
use Rattle.sta_theory.specs.Machines.{states, IsMachine, HasLanguage, IsLeastMachine}

module _ {L : Type 0} (state : Tree L → ℕ) where
  states_map : (ts : List (Tree L)) → states state (trees_of ts) ≡ map state ts
  states_map [] = refl
  states_map (t ∷ ts) = ap (λ is. state t ∷ is) (states_map ts)

  states_around : (before : List (Tree L)) (s t : Tree L) (after : List (Tree L)) → state s ≡ state t → states state (trees_of (before ++ s ∷ after)) ≡ states state (trees_of (before ++ t ∷ after))
  states_around [] s t after e = ap (λ i. i ∷ states state (trees_of after)) e
  states_around (u ∷ before) s t after e = ap (λ is. state u ∷ is) (states_around before s t after e)

module _ {L : Type 0} (ranks : List ℕ) (D : L → Type 0) where
  pub fits_inside : (before : List (Tree L)) (t : Tree L) (after : List (Tree L)) → FitsAll ranks D (trees_of (before ++ t ∷ after)) → Fits ranks D t
  fits_inside [] t after f = f.0
  fits_inside (u ∷ before) t after f = fits_inside before t after f.1

  module _ (n : ℕ) (state : Tree L → ℕ) (machine : IsMachine ranks D n state) where
    -- trees of one state have one state in each context
    one_state : (k : Context L) (s t : Tree L) → Fits ranks D (filled k s) → Fits ranks D (filled k t) → state s ≡ state t → state (filled k s) ≡ state (filled k t)
    one_state hole s t f g e = e
    one_state (around c l before k after) s t f g e =
        machine.by_children c l (trees_of (before ++ filled k s ∷ after)) (trees_of (before ++ filled k t ∷ after)) f g
        (states_around state before (filled k s) (filled k t) after (one_state k s t (fits_inside before (filled k s) after f.3) (fits_inside before (filled k t) after g.3) e))

    module _ (member : Tree L → Bool) (final : ℕ → Bool) (language : HasLanguage ranks D state final member) where
      -- trees that a context tells apart have two states
      pub two_states : (s t : Tree L) → AreToldApart ranks D member s t → ¬ (state s ≡ state t)
      two_states s t (k, f, g, differ) e = differ (language (filled k s) f ∙ ap final (one_state k s t f g e) ∙ sym (language (filled k t) g))

      other_states : (t : Tree L) (ts : List (Tree L)) → All (AreToldApart ranks D member t) ts → AllByRecursion (λ q. eqb (state t) q ≡ false) (map state ts)
      other_states t [] h = tt
      other_states t (u ∷ ts) h = (ne_eqb _ _ (two_states t u (All-head (AreToldApart ranks D member t) u ts h)), other_states t ts (All-tail (AreToldApart ranks D member t) u ts h))

      distinct_states : (ts : List (Tree L)) → EachTwo (AreToldApart ranks D member) ts → IsDistinct eqb (map state ts)
      unfolding IsDistinct
      distinct_states [] h = tt
      distinct_states (t ∷ ts) h = (other_states t ts h.0, distinct_states ts h.1)

      states_below : (ts : List (Tree L)) → All (Fits ranks D) ts → (q : ℕ) → list_any (eqb q) (map state ts) ≡ true → q < n
      states_below [] f q h = absurd (cc)
      states_below (t ∷ ts) f q h = elim (or_cases (eqb q (state t)) (list_any (eqb q) (map state ts)) h) [
        | inl e ↦ subst (λ k. k < n) (sym (eqb-true q (state t) e)) (machine.below t (All-head (Fits ranks D) t ts f))
        | inr later ↦ states_below ts (All-tail (Fits ranks D) t ts f) q later
      ]

      -- there are no more of them than states
      pub apart_few : (ts : List (Tree L)) → AreAllToldApart ranks D member ts → length ts ≤ n
      apart_few ts h =
          let few : length (map state ts) ≤ n = length-le_from_distinct_below (map state ts) n (distinct_states ts h.1) (states_below ts h.0) in
          subst (λ k. k ≤ n) (length-map ts state) few

-- the least machine has as many states as trees can be told apart, and no other has fewer
module _ {L : Type 0} (ranks : List ℕ) (D : L → Type 0) (member : Tree L → Bool) (n : ℕ) (state : Tree L → ℕ) (final : ℕ → Bool) (least : IsLeastMachine ranks D member n state final) where
  -- a tree of each of the last m states
  record Last (k m : ℕ) : Type 0 where
    trees : List (Tree L)
    many : length trees ≡ m
    apart : AreAllToldApart ranks D member trees
    late : All (λ t. k ≤ state t) trees

  apart_from_later : (t : Tree L) (ts : List (Tree L)) → Fits ranks D t → All (Fits ranks D) ts → All (λ u. suc (state t) ≤ state u) ts → All (AreToldApart ranks D member t) ts
  apart_from_later t [] f g late = All-nil (AreToldApart ranks D member t)
  apart_from_later t (u ∷ ts) f g late =
      let after : suc (state t) ≤ state u = All-head (λ v. suc (state t) ≤ state v) u ts late in
      All-cons (AreToldApart ranks D member t) u ts (least.apart t u f (All-head (Fits ranks D) u ts g) (λ e. omega (arith, after, e)))
      (apart_from_later t ts f (All-tail (Fits ranks D) u ts g) (All-tail (λ v. suc (state t) ≤ state v) u ts late))

  sooner : (k : ℕ) (ts : List (Tree L)) → All (λ t. suc k ≤ state t) ts → All (λ t. k ≤ state t) ts
  sooner k [] h = All-nil (λ t. k ≤ state t)
  sooner k (t ∷ ts) h = All-cons (λ u. k ≤ state u) t ts (omega (arith, All-head (λ u. suc k ≤ state u) t ts h)) (sooner k ts (All-tail (λ u. suc k ≤ state u) t ts h))

  last_states : (m k : ℕ) → k + m ≡ n → Last k m
  last_states zero k e = record { trees = []; many = refl; apart = (All-nil (Fits ranks D), tt); late = All-nil (λ t. k ≤ state t) }
  last_states (suc m) k e =
      let (t, fits, is) = least.inhabited k (omega (arith, e)) in
      let more : Last (suc k) m = last_states m (suc k) (omega (arith, e)) in
      record {
        trees = t ∷ more.trees;
        many = ap suc more.many;
        apart = (
          All-cons (Fits ranks D) t more.trees fits more.apart.0,
          (apart_from_later t more.trees fits more.apart.0 (subst (λ j. All (λ u. suc j ≤ state u) more.trees) (sym is) more.late), more.apart.1),
        );
        late = All-cons (λ u. k ≤ state u) t more.trees (omega (arith, is)) (sooner k more.trees more.late);
      }

  pub is_count : IsCount ranks D member n
  is_count =
      let all : Last 0 n = last_states n 0 (omega arith) in
      record { trees = all.trees; apart = all.apart; so_many = all.many; no_more = apart_few ranks D n state least.machine member final least.language }

  pub fewest : (m : ℕ) (other : Tree L → ℕ) (accepting : ℕ → Bool) → IsMachine ranks D m other → HasLanguage ranks D other accepting member → n ≤ m
  fewest m other accepting machine language =
      let count : IsCount ranks D member n = is_count in
      subst (λ k. k ≤ m) count.so_many (apart_few ranks D m other machine member accepting language count.trees count.apart)
