-- Least trees of classes.
use Rattle.std.proofs.Common.{ℕ, zero, suc, ◌≡◌, ◌<◌, ◌≤◌, ◌+◌, ◌-◌, ◌⊎◌, inl, inr, min, max, List, [], ◌∷◌, ◌++◌, map, get_or, length, Contains, refl, sym, ap, ap₂, subst, ◌∙◌, arith}
use Rattle.std.proofs.lemmas.List.{length-map}
use Rattle.model_tree.specs.Tree.{Tree, node, Trees, no_trees, tree, node_count, node_count_all, depth, depth_all}
use Rattle.model_sta.specs.Automaton.{Rule}
use Rattle.model_sta.specs.Sets.{Row, Each, step, set_of, sets_of, width, Fits, FitsAll}
use Rattle.model_sta.specs.Reached.{Covers}
use Rattle.model_sta.specs.Least.{total, EachNumbered, Found, rows_of, counts_of, nodes_at, rows_at, cost, IsMade, AreMade, IsLeast, CostsAtLeast, IsWitness}
use Rattle.model_sta.proofs.Sets.{step_agree, width_sets}
use Rattle.model_sta.proofs.Reached.{same_default}

pub least_at : {L : Type 0} (cap : ℕ) (ranks : List ℕ) (D : L → Type 0) (rules : List (List (Rule L))) (found : List (Found L)) (k : ℕ) → k < length found → Each (IsLeast cap ranks D rules) found
    → (t : Tree L) → Fits ranks D t → set_of rules t ≡ get_or (rows_of found) k [] → get_or (counts_of found) k 0 ≤ node_count t
least_at cap ranks D rules [] k l h = absurd (omega arith)
least_at cap ranks D rules (f ∷ found) zero l h = h.0
least_at cap ranks D rules (f ∷ found) (suc k) l h = least_at cap ranks D rules found k (omega arith) h.1

pub either_of : {A B C E : Type 0} → (A → C) → (B → E) → A ⊎ B → C ⊎ E
either_of f g (inl a) = inl (f a)
either_of f g (inr b) = inr (g b)

-- numbers of found sets for the children, where the total of their nodes is at most that of the children
abbrev pub Numbers : {L : Type 0} → List (List (Rule L)) → List (Found L) → Trees L → Type 0
Numbers rules found ts = (ks : List ℕ) × Each (λ k. k < length found) ks × (rows_at found ks ≡ sets_of rules ts) × (total (nodes_at found ks) ≤ node_count_all ts)

-- each node over children with found sets has a found set, or at least m nodes
module _ {L : Type 0} (cap : ℕ) (ranks : List ℕ) (D : L → Type 0) (rules : List (List (Rule L))) (found : List (Found L)) (m : ℕ) (least : Each (IsLeast cap ranks D rules) found)
    (root : (c : ℕ) (l : L) (ts : Trees L) → c < length ranks → D l → width ts ≡ get_or ranks c 0 → Numbers rules found ts → Contains (rows_of found) (set_of rules (node c l ts)) ⊎ (m ≤ node_count (node c l ts))) where
  join : (t : Tree L) (ts : Trees L) → Fits ranks D t → Contains (rows_of found) (set_of rules t) ⊎ (m ≤ node_count t) → Numbers rules found ts ⊎ (m ≤ node_count_all ts) → Numbers rules found (tree t ts) ⊎ (m ≤ node_count_all (tree t ts))
  join t ts f (inr b) h = inr (omega arith)
  join t ts f (inl a) (inr b) = inr (omega arith)
  join t ts f (inl a) (inl b) =
      let (k, low, is) = a in
      let (ks, lows, are, few) = b in
      let n : length (rows_of found) ≡ length found = length-map found (λ f. f.row) in
      let low' : k < length found = omega arith in
      let at : get_or (rows_of found) k [] ≡ set_of rules t = same_default (rows_of found) k [] (set_of rules t) low ∙ is in
      let here : get_or (counts_of found) k 0 ≤ node_count t = least_at cap ranks D rules found k low' least t f (sym at) in
      inl (k ∷ ks, (low', lows), ap₂ (λ x y. x ∷ y) at are, omega arith)

  at_root : (c : ℕ) (l : L) (ts : Trees L) → c < length ranks → D l → width ts ≡ get_or ranks c 0 → Numbers rules found ts ⊎ (m ≤ node_count_all ts) → Contains (rows_of found) (set_of rules (node c l ts)) ⊎ (m ≤ node_count (node c l ts))
  at_root c l ts low given wide (inr big) = inr (omega arith)
  at_root c l ts low given wide (inl numbers) = root c l ts low given wide numbers

  mutual
    -- so has each tree
    pub found_by_roots : (t : Tree L) → Fits ranks D t → Contains (rows_of found) (set_of rules t) ⊎ (m ≤ node_count t)
    found_by_roots (node c l ts) f = let (low, is_label, wide, rest) = f in at_root c l ts low is_label wide (all_found_by_roots ts rest)

    all_found_by_roots : (ts : Trees L) → FitsAll ranks D ts → Numbers rules found ts ⊎ (m ≤ node_count_all ts)
    all_found_by_roots no_trees f = inl ([], tt, refl, omega arith)
    all_found_by_roots (tree t ts) f = join t ts f.0 (found_by_roots t f.0) (all_found_by_roots ts f.1)

module _ {L : Type 0} (cap : ℕ) (ranks : List ℕ) (D : L → Type 0) (rules : List (List (Rule L))) (values : ℕ → List L) (found : List (Found L)) (m : ℕ)
    (covers : Covers ranks D rules values) (least : Each (IsLeast cap ranks D rules) found) (bound : CostsAtLeast cap ranks D rules values found m) where
  root : (c : ℕ) (l : L) (ts : Trees L) → c < length ranks → D l → width ts ≡ get_or ranks c 0 → Numbers rules found ts → Contains (rows_of found) (set_of rules (node c l ts)) ⊎ (m ≤ node_count (node c l ts))
  root c l ts low is_label wide numbers =
      let (v, given, agree) = covers c low l is_label in
      let (ks, lows, are, few) = numbers in
      let n : length ks ≡ get_or ranks c 0 = sym (length-map ks (λ k. get_or (rows_of found) k [])) ∙ ap length are ∙ width_sets rules ts ∙ wide in
      either_of (subst (Contains (rows_of found)) (ap (step rules c v) are ∙ step_agree c l v (sets_of rules ts) rules agree)) (λ b. omega arith) (bound c low ks lows n v given)

  -- each tree has a found set, or at least m nodes
  pub found_or_large : (t : Tree L) → Fits ranks D t → Contains (rows_of found) (set_of rules t) ⊎ (m ≤ node_count t)
  found_or_large = found_by_roots cap ranks D rules found m least root

pub each_push : {X : Type 0} (P : X → Type 0) (xs : List X) (y : X) → Each P xs → P y → Each P (xs ++ y ∷ [])
each_push P [] y h p = (p, tt)
each_push P (x ∷ xs) y h p = (h.0, each_push P xs y h.1 p)

pub numbered_push : {X : Type 0} (P : ℕ → X → Type 0) (xs : List X) (y : X) → EachNumbered P xs → P (length xs) y → EachNumbered P (xs ++ y ∷ [])
numbered_push P [] y h p = (p, tt)
numbered_push P (x ∷ xs) y h p = (h.0, numbered_push (λ k. P (suc k)) xs y h.1 p)

pub numbered_map : {X : Type 0} (P Q : ℕ → X → Type 0) (n : ℕ) → ((k : ℕ) (x : X) → k < n → P k x → Q k x) → (xs : List X) → length xs ≤ n → EachNumbered P xs → EachNumbered Q xs
numbered_map P Q n f [] l h = tt
numbered_map P Q n f (x ∷ xs) l h = (f 0 x (omega arith) h.0, numbered_map (λ k. P (suc k)) (λ k. Q (suc k)) (n - 1) (λ k y b. f (suc k) y (omega arith)) xs (omega arith) h.1)

-- the element at a place, with what holds there
pub numbered_at : {L : Type 0} (P : ℕ → Found L → Type 0) (found : List (Found L)) (k : ℕ) → k < length found → EachNumbered P found
    → (f : Found L) × P k f × (get_or (rows_of found) k [] ≡ f.row) × (get_or (counts_of found) k 0 ≡ f.nodes)
numbered_at P [] k l h = absurd (omega arith)
numbered_at P (f ∷ found) zero l h = (f, h.0, refl, refl)
numbered_at P (f ∷ found) (suc k) l h = numbered_at (λ j. P (suc j)) found k (omega arith) h.1

module _ {L : Type 0} (cap : ℕ) (ranks : List ℕ) (D : L → Type 0) (rules : List (List (Rule L))) where
  -- a new set, where each tree has a found set or no fewer nodes
  pub new_is_least : (found : List (Found L)) (f : Found L)
      → ((t : Tree L) → Fits ranks D t → Contains (rows_of found) (set_of rules t) ⊎ (f.nodes ≤ node_count t))
      → (Contains (rows_of found) f.row → ⊥) → IsLeast cap ranks D rules f
  new_is_least found f large new t fits is = elim (large t fits) [ inl known ↦ absurd (new (subst (Contains (rows_of found)) is known)) | inr b ↦ b ]

  -- witnesses for the children with these numbers
  pub record AreKids (found : List (Found L)) (k : ℕ) (js : List ℕ) (ts : Trees L) : Type 0 where
    pub fit : FitsAll ranks D ts
    pub sets_are : sets_of rules ts ≡ rows_at found js
    pub counts : total (nodes_at found js) < cap → node_count_all ts ≡ total (nodes_at found js)
    pub shallow : depth_all ts ≤ k

  pub no_kids : (found : List (Found L)) (k : ℕ) → AreKids found k [] no_trees
  no_kids found k = record { fit = tt; sets_are = refl; counts = λ _. refl; shallow = omega arith }

  pub more_kids : (found : List (Found L)) (k j : ℕ) (js : List ℕ) (t : Tree L) (ts : Trees L) → j < k → IsWitness cap ranks D rules found j t → AreKids found k js ts → AreKids found k (j ∷ js) (tree t ts)
  more_kids found k j js t ts low w h = record {
    fit = (w.fits, h.fit);
    sets_are = ap₂ (λ x y. x ∷ y) w.set_is h.sets_are;
    counts = λ (b : get_or (counts_of found) j 0 + total (nodes_at found js) < cap). ap₂ (λ x y. x + y) (w.count (omega arith)) (h.counts (omega arith));
    shallow = let a : depth t ≤ suc j = w.shallow in let b : depth_all ts ≤ k = h.shallow in omega arith;
  }

  kids : (found : List (Found L)) (k : ℕ) (js : List ℕ) → Each (λ j. j < k) js → ((j : ℕ) → j < k → (t : Tree L) × IsWitness cap ranks D rules found j t) → (ts : Trees L) × AreKids found k js ts
  kids found k [] e f = (no_trees, no_kids found k)
  kids found k (j ∷ js) e f =
      let (t, w) = f j e.0 in
      let (ts, h) = kids found k js e.1 f in
      (tree t ts, more_kids found k j js t ts e.0 w h)

  -- the tree of a found set over witnesses for its children
  pub assembled : (found : List (Found L)) → AreMade cap ranks D rules found → (k : ℕ) (f : Found L) → IsMade cap ranks D rules found k f → get_or (rows_of found) k [] ≡ f.row → get_or (counts_of found) k 0 ≡ f.nodes
      → (ts : Trees L) → AreKids found k f.children ts → IsWitness cap ranks D rules found k (node f.constructor f.label ts)
  assembled found made k f is row_at count_at ts h =
      let nodes : f.nodes ≡ min cap (suc (total (nodes_at found f.children))) = is.nodes_are in
      record {
        fits = (is.low, is.is_label, sym (width_sets rules ts) ∙ ap length h.sets_are ∙ length-map f.children (λ j. get_or (rows_of found) j []) ∙ is.wide, h.fit);
        set_is = ap (step rules f.constructor f.label) h.sets_are ∙ sym is.row_is ∙ sym row_at;
        count = λ b.
            let few : total (nodes_at found f.children) < cap = omega arith in
            let n : node_count_all ts ≡ total (nodes_at found f.children) = h.counts few in
            omega arith;
        shallow = let b : depth_all ts ≤ k = h.shallow in omega arith;
      }

  -- each found set has a witness
  pub witness : (found : List (Found L)) → AreMade cap ranks D rules found → (n k : ℕ) → k < n → k < length found → (t : Tree L) × IsWitness cap ranks D rules found k t
  witness found made zero k b low = absurd (omega arith)
  witness found made (suc n) k b low =
      let (f, is, row_at, count_at) = numbered_at (IsMade cap ranks D rules found) found k low made in
      let (ts, h) = kids found k f.children is.earlier (λ j jk. witness found made n j (omega arith) (omega arith)) in
      (node f.constructor f.label ts, assembled found made k f is row_at count_at ts h)

module _ {L : Type 0} (cap : ℕ) (ranks : List ℕ) (D E : L → Type 0) (rules : List (List (Rule L))) where
  -- a witness of a least class is a least tree
  pub witness_is_least : (found : List (Found L)) → Each (IsLeast cap ranks D rules) found → (k : ℕ) → k < length found → (t : Tree L) → IsWitness cap ranks E rules found k t → get_or (counts_of found) k 0 < cap
      → (u : Tree L) → Fits ranks D u → set_of rules u ≡ get_or (rows_of found) k [] → node_count t ≤ node_count u
  witness_is_least found least k low t w b u fits is =
      let c : node_count t ≡ get_or (counts_of found) k 0 = w.count b in
      let m : get_or (counts_of found) k 0 ≤ node_count u = least_at cap ranks D rules found k low least u fits is in
      omega arith
