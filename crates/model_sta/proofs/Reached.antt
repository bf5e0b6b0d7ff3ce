-- Which sets of states trees have.
use Rattle.std.proofs.Common.{ℕ, zero, suc, ◌≡◌, ◌<◌, ◌⊎◌, inl, inr, List, [], ◌∷◌, ◌++◌, get_or, length, All, Contains, refl, sym, ap, ap₂, subst, ◌∙◌, arith, lt_trans}
use Rattle.std.proofs.lemmas.List.Elements.{All-push}
use Rattle.model_tree.specs.Tree.{Tree, node, Trees, no_trees, tree}
use Rattle.model_sta.specs.Automaton.{Rule}
use Rattle.model_sta.specs.Sets.{Row, Each, step, set_of, sets_of, Fits, FitsAll}
use Rattle.model_sta.specs.Reached.{Apart, IsReached, AreSets, Covers, IsClosed, IsComplete}
use Rattle.model_sta.proofs.Sets.{step_agree, width_sets}

module _ {L : Type 0} (ranks : List ℕ) (D : L → Type 0) (rules : List (List (Rule L))) (values : ℕ → List L) (known : List Row) (covers : Covers ranks D rules values) (closed : IsClosed ranks D rules values known) where
  mutual
    pub closed_is_complete : (t : Tree L) → Fits ranks D t → Contains known (set_of rules t)
    closed_is_complete (node c l ts) f =
        let (low, is_label, wide, rest) = f in
        let (v, given, agree) = covers c low l is_label in
        subst (Contains known) (step_agree c l v (sets_of rules ts) rules agree)
        (closed c low (sets_of rules ts) (closed_is_complete_all ts rest) (width_sets rules ts ∙ wide) v given)

    closed_is_complete_all : (ts : Trees L) → FitsAll ranks D ts → Each (Contains known) (sets_of rules ts)
    closed_is_complete_all no_trees f = tt
    closed_is_complete_all (tree t ts) f = (closed_is_complete t f.0, closed_is_complete_all ts f.1)

module _ {L : Type 0} (ranks : List ℕ) (D : L → Type 0) (rules : List (List (Rule L))) where
  -- trees for a list of reached sets
  pub trees_for : (qs : List Row) → Each (IsReached ranks D rules) qs → (ts : Trees L) × FitsAll ranks D ts × (sets_of rules ts ≡ qs)
  trees_for [] h = (no_trees, tt, refl)
  trees_for (q ∷ qs) h =
      let (t, fits, is) = h.0 in
      let (ts, all_fit, are) = trees_for qs h.1 in
      (tree t ts, (fits, all_fit), ap₂ (λ x y. x ∷ y) is are)

  pub step_reached : (c : ℕ) → c < length ranks → (l : L) → D l → (qs : List Row) → length qs ≡ get_or ranks c 0 → Each (IsReached ranks D rules) qs → IsReached ranks D rules (step rules c l qs)
  step_reached c low l d qs wide h =
      let (ts, fit, are) = trees_for qs h in
      (node c l ts, (low, d, sym (width_sets rules ts) ∙ ap length are ∙ wide, fit), ap (step rules c l) are)

module _ {L : Type 0} (ranks : List ℕ) (D E : L → Type 0) (f : (l : L) → D l → E l) where
  mutual
    -- a tree of labels that are all among others
    pub fits_more : (t : Tree L) → Fits ranks D t → Fits ranks E t
    fits_more (node c l ts) h = let (low, d, wide, rest) = h in (low, f l d, wide, all_fit_more ts rest)

    all_fit_more : (ts : Trees L) → FitsAll ranks D ts → FitsAll ranks E ts
    all_fit_more no_trees h = tt
    all_fit_more (tree t ts) h = (fits_more t h.0, all_fit_more ts h.1)

pub same_default : {X : Type 0} (xs : List X) (i : ℕ) (d e : X) → i < length xs → get_or xs i d ≡ get_or xs i e
same_default [] i d e l = absurd (omega arith)
same_default (x ∷ xs) zero d e l = refl
same_default (x ∷ xs) (suc i) d e l = same_default xs i d e (omega arith)

-- what holds of each place of a list holds of each place once one more is there
pub pushed : {X : Type 0} (P : ℕ → X → Type 0) (xs : List X) (y d : X) → ((c : ℕ) → c < length xs → P c (get_or xs c d)) → P (length xs) y
    → (c : ℕ) → c < length (xs ++ y ∷ []) → P c (get_or (xs ++ y ∷ []) c d)
pushed P [] y d h p zero l = p
pushed P [] y d h p (suc c) l = absurd (omega arith)
pushed P (x ∷ xs) y d h p zero l = h 0 (omega arith)
pushed P (x ∷ xs) y d h p (suc c) l = pushed (λ k. P (suc k)) xs y d (λ k b. h (suc k) (omega arith)) p c (omega arith)

-- where a place of a longer list lies
abbrev Place : List Row → Row → ℕ → Row → Type 0
Place known q i x = ((i < length known) × (x ≡ get_or known i [])) ⊎ ((i ≡ length known) × (x ≡ q))

place : (known : List Row) (q : Row) (i : ℕ) → i < length (known ++ q ∷ []) → Place known q i (get_or (known ++ q ∷ []) i [])
place known q = pushed (Place known q) known q [] (λ c l. inl (l, refl)) (inr (refl, refl))

apart_at : (known : List Row) (q : Row) → Apart known → (Contains known q → ⊥) → (i j : ℕ) (x y : Row) → i < j → Place known q i x → Place known q j y → x ≡ y → ⊥
apart_at known q h new i j x y ij (inl a) (inl b) e = h i j ij b.0 (sym a.1 ∙ e ∙ b.1)
apart_at known q h new i j x y ij (inl a) (inr b) e = new (i, a.0, same_default known i q [] a.0 ∙ sym a.1 ∙ e ∙ b.1)
apart_at known q h new i j x y ij (inr a) (inl b) e = omega arith
apart_at known q h new i j x y ij (inr a) (inr b) e = omega arith

apart_push : (known : List Row) (q : Row) → Apart known → (Contains known q → ⊥) → Apart (known ++ q ∷ [])
apart_push known q h new i j ij jl e = apart_at known q h new i j _ _ ij (place known q i (lt_trans ij jl)) (place known q j jl) e

module _ {L : Type 0} (ranks : List ℕ) (D : L → Type 0) (rules : List (List (Rule L))) where
  -- one more set that a tree has
  pub sets_push : (known : List Row) (q : Row) → AreSets ranks D rules known → IsReached ranks D rules q → (Contains known q → ⊥) → AreSets ranks D rules (known ++ q ∷ [])
  sets_push known q h reached new = record {
    reached = All-push (IsReached ranks D rules) known q h.reached reached;
    apart = apart_push known q h.apart new;
  }
