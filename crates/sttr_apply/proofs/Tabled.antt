-- Tables of what is found of calls, and terms over them.
use Rattle.std.proofs.Common.{ℕ, zero, suc, ◌≡◌, ◌+◌, ◌<◌, ◌≤◌, ◌⊎◌, inl, inr, ◌==◌, true, cond, List, [], ◌∷◌, map, length, get_or, set, drop, Vec, Global, Option, None, refl, sym, ap, subst, ◌∙◌, ◌↔◌, arith}
use Rattle.std.specs.Prelude.{ℤ, Contains}
use Rattle.std.specs.List.{All}
use Rattle.std.proofs.Math.ListN.{length-set}
use Rattle.std.proofs.lemmas.List.Elements.{All-nil, All-cons}
use Rattle.std.proofs.lemmas.Simd.{map-map}
use Rattle.sta_core.proofs.Meaning.{All_from_map}
use Rattle.std.specs.Cmp.{IsTotalOrder}
use Rattle.std.specs.declared.cmp.Ordering.{Ordering}
use Rattle.std.specs.declared.cmp.Ordering.TheVariants.{Equal}
use Rattle.model_tree.specs.Limits.{greatest_depth}
use Rattle.model_tree.specs.Label.{Label}
use Rattle.model_tree.specs.Tree.{Tree, node, trees_of, children_of, label_of, relabel, relabel_all, depth}
use Rattle.model_sta.specs.Loads.{depths}
use Rattle.model_sttr.specs.Terms.{Term, on, build, part, with_maps, parts_with_maps}
use Rattle.model_sttr.specs.Transducer.{Head, identity, run, Sttr, GivesAt}
use Rattle.model_sttr.specs.Guards.{MakesByOne}
use Rattle.model_sttr.specs.Cuts.{Cut, keep, IsCutAt}
use Rattle.sttr_core.specs.Fits.{EveryMap}
use Rattle.sttr_core.specs.Terms.{plain_term}
use Rattle.sttr_core.specs.declared.term.Term.{Term as Written}
use Rattle.sttr_core.specs.declared.term.Term.TheVariants.{Node}
use Rattle.sttr_core.proofs.Parts.{parts_of, parts_are}
use Rattle.apply_laws.specs.Listing.{each_kept, kept_at}
use Rattle.apply_laws.specs.Found.{too_much, listed}
use Rattle.apply_laws.specs.Meant.{meant}
use Rattle.apply_laws.specs.Terms.{IsTermFound, IsCallFoundAt}
use Rattle.apply_laws.proofs.Listed.{none}
use Rattle.apply_laws.proofs.Calls.{of_kept}
use Rattle.apply_laws.proofs.Copies.{copied_cuts}
use Rattle.apply_laws.proofs.Parts.{depth-relabel}
use Rattle.sttr_apply.specs.Calls.{one, called, used, uses_in, IsTaken, AreStillFound}
use Rattle.sttr_apply.proofs.Used.{same_number}
use Rattle.sttr_apply.specs.Labels.{keeps, Outside}
use Rattle.sttr_apply.specs.Plain.{out_cut}
use Rattle.sttr_apply.specs.Tables.{parts_in, lists_in, uses_at, HasUses, KeepsUses, IsTable}
use Rattle.sttr_apply.specs.declared.calls.Entry.{Entry}
use Rattle.sttr_apply.specs.declared.outs.Listing.{Listing}

-- ---- the list of a child

get_set : {X : Type 0} (xs : List (List X)) (k : ℕ) (ys : List X) → k < length xs → get_or (set xs k ys) k [] ≡ ys
get_set [] k ys l = absurd (omega (arith, l))
get_set (x ∷ xs) zero ys l = refl
get_set (x ∷ xs) (suc k) ys l = get_set xs k ys (omega arith)

get_other : {X : Type 0} (xs : List (List X)) (k i : ℕ) (ys : List X) → ¬ (k ≡ i) → get_or (set xs k ys) i [] ≡ get_or xs i []
get_other [] k i ys d = refl
get_other (x ∷ xs) zero zero ys d = absurd (d refl)
get_other (x ∷ xs) zero (suc i) ys d = refl
get_other (x ∷ xs) (suc k) zero ys d = refl
get_other (x ∷ xs) (suc k) (suc i) ys d = get_other xs k i ys (λ e. d (ap suc e))

one_or_other : (k i : ℕ) → (k ≡ i) ⊎ ¬ (k ≡ i)
one_or_other zero zero = inl refl
one_or_other zero (suc i) = inr (λ e. omega (arith, e))
one_or_other (suc k) zero = inr (λ e. omega (arith, e))
one_or_other (suc k) (suc i) = elim (one_or_other k i) [ inl e ↦ inl (ap suc e) | inr d ↦ inr (λ e. d (omega (arith, e))) ]

module _ {V : Type 0} (label : V → Label) (order : V → V → Ordering) (total : IsTotalOrder order) (same : (v w : V) → (order v w ≡ Equal) ↔ (label v ≡ label w)) (f : Sttr Label) (tree : Tree V) (old : List (List (Entry V))) (h : IsTable label order f tree old) where
  -- a list that is taken from an entry is what is found
  pub taken_found : (q k : ℕ) (y : Listing V) → IsTaken label (get_or old k []) q y → IsCallFoundAt label order keeps Outside f q k (children_of tree) (listed (map out_cut y.outs.items) y.far)
  taken_found q k y (e, c, s, u, m) =
      let this = subst (λ p. IsCallFoundAt label order keeps Outside f p k (children_of tree) (listed (map out_cut e.listing.outs.items) e.listing.far)) s (h.found k e c u) in
      subst (λ a. IsCallFoundAt label order keeps Outside f q k (children_of tree) (listed (map out_cut y.outs.items) a)) (sym m.1)
      (copied_cuts label order total same keeps Outside (λ x. IsCutAt f (run q) k (relabel_all label (children_of tree)) (meant label x)) (λ x y e c. subst (IsCutAt f (run q) k (relabel_all label (children_of tree))) e c) _ (map out_cut e.listing.outs.items) (map out_cut y.outs.items) e.listing.far m.0 this)

  -- where the entries of a child change in this way
  pub table_after : (k : ℕ) (entries : List (Entry V)) → k < length old → AreStillFound (get_or old k []) entries → IsTable label order f tree (set old k entries)
  table_after k entries low still = record {
    width = length-set old k entries ∙ h.width;
    found = λ i e c u. elim (one_or_other k i) [
      | inl g ↦ here i g e (subst (λ xs. Contains xs e) (ap (λ j. get_or (set old k entries) j []) (sym g) ∙ get_set old k entries low) c) u
      | inr d ↦ h.found i e (subst (λ xs. Contains xs e) (get_other old k i entries d) c) u
    ];
  }
    where
      here : (i : ℕ) → k ≡ i → (e : Entry V) → Contains entries e → 0 < e.uses → IsCallFoundAt label order keeps Outside f e.state i (children_of tree) (listed (map out_cut e.listing.outs.items) e.listing.far)
      here i g e c u =
          let s = still e c u in
          subst (λ j. IsCallFoundAt label order keeps Outside f e.state j (children_of tree) (listed (map out_cut e.listing.outs.items) e.listing.far)) g
          (subst (λ l. IsCallFoundAt label order keeps Outside f e.state k (children_of tree) (listed (map out_cut l.outs.items) l.far)) (sym s.4)
          (subst (λ q. IsCallFoundAt label order keeps Outside f q k (children_of tree) (listed (map out_cut s.0.listing.outs.items) s.0.listing.far)) s.2 (h.found k s.0 s.1 s.3)))

module _ {V : Type 0} (old : List (List (Entry V))) (k : ℕ) (entries : List (Entry V)) (state : ℕ) (low : k < length old) (less : (q : ℕ) → used (uses_in entries) q + one state q ≡ used (uses_in (get_or old k [])) q) where
  pub uses_after : KeepsUses old (set old k entries) (called state k)
  uses_after q i l = elim (one_or_other k i) [
    | inl g ↦ here i g
    | inr d ↦ omega (arith, ap (λ xs. used (uses_in xs) q) (get_other old k i entries d))
  ]
    where
      here : (i : ℕ) → k ≡ i → uses_at old q i ≤ uses_at (set old k entries) q i + cond (k == i) (one state q) 0
      here i g = subst (λ j. uses_at old q j ≤ uses_at (set old k entries) q j + cond (k == j) (one state q) 0) g
          (let e = ap (λ xs. used (uses_in xs) q) (get_set old k entries low) in
          let c : cond (k == k) (one state q) 0 ≡ one state q = ap (λ b. cond b (one state q) 0) (same k) in
          omega (arith, e, c, less q))
        where
          same : (k : ℕ) → (k == k) ≡ true
          same k = same_number k k refl

-- ---- children as they are

kept_at_place : {V : Type 0} (ts : List (Tree V)) (j : ℕ) (t : Tree V) → j < length ts → t ≡ get_or ts j t → (f : Sttr Label) → kept_at (trees_of ts) j ≡ keep t ∷ []
kept_at_place [] j t l e f = absurd (omega arith)
kept_at_place (x ∷ ts) zero t l e f = ap (λ z. keep z ∷ []) (sym e)
kept_at_place (x ∷ ts) (suc j) t l e f = kept_at_place ts j t (omega arith) e f

kept_beyond : {V : Type 0} (ts : List (Tree V)) (j : ℕ) → length ts ≤ j → kept_at (trees_of ts) j ≡ []
kept_beyond [] j h = refl
kept_beyond (x ∷ ts) zero h = absurd (omega (arith, h))
kept_beyond (x ∷ ts) (suc j) h = kept_beyond ts j (omega arith)

module _ {V : Type 0} (label : V → Label) (order : V → V → Ordering) (total : IsTotalOrder order) (same : (v w : V) → (order v w ≡ Equal) ↔ (label v ≡ label w)) (f : Sttr Label) (tree : Tree V) (ts : List (Tree V)) (are : trees_of ts ≡ children_of tree) (kept : each_kept keeps (relabel_all label (children_of tree)) ≡ true) where
  kept_found : (j : ℕ) (xs : List (Cut V)) (far : Option ℤ) → xs ≡ kept_at (children_of tree) j → far ≡ None → IsTermFound label order keeps Outside f (children_of tree) (label (label_of tree)) (on identity j) (listed xs far)
  kept_found j xs far e g =
      subst (λ ys. IsTermFound label order keeps Outside f (children_of tree) (label (label_of tree)) (on identity j) (listed ys far)) (sym e)
      (subst (λ a. IsTermFound label order keeps Outside f (children_of tree) (label (label_of tree)) (on identity j) (listed (kept_at (children_of tree) j) a)) (sym g) (of_kept label order keeps Outside total same f (children_of tree) j kept))

  pub kept_nothing : (j : ℕ) (xs : List (Cut V)) (far : Option ℤ) → length ts ≤ j → xs ≡ [] → far ≡ None → IsTermFound label order keeps Outside f (children_of tree) (label (label_of tree)) (on identity j) (listed xs far)
  kept_nothing j xs far past e g = kept_found j xs far (e ∙ (sym (kept_beyond ts j past) ∙ ap (λ us. kept_at us j) are)) g

  pub kept_one : (j : ℕ) (t : Tree V) (xs : List (Cut V)) (far : Option ℤ) → j < length ts → t ≡ get_or ts j t → xs ≡ keep t ∷ [] → far ≡ None → IsTermFound label order keeps Outside f (children_of tree) (label (label_of tree)) (on identity j) (listed xs far)
  kept_one j t xs far low at e g = kept_found j xs far (e ∙ (sym (kept_at_place ts j t low at f) ∙ ap (λ us. kept_at us j) are)) g

  given : (us : List (Tree V)) (j : ℕ) (t : Tree V) → j < length us → t ≡ get_or us j t → GivesAt f identity j (relabel_all label (trees_of us)) (relabel label t)
  given [] j t l e = absurd (omega (arith, l))
  given (node c v vs ∷ us) zero t l e = ap (relabel label) (sym e)
  given (u ∷ us) (suc j) t l e = given us j t (omega arith) e

  pub kept_deep : (j : ℕ) (t : Tree V) → j < length ts → t ≡ get_or ts j t → greatest_depth < depth t → IsTermFound {N = ℤ} label order keeps Outside f (children_of tree) (label (label_of tree)) (on identity j) (too_much depths)
  kept_deep j t low at deep = (relabel label t, subst (λ us. GivesAt f identity j (relabel_all label us) (relabel label t)) are (given ts j t low at), omega (arith, deep, depth-relabel label t))

module _ {V : Type 0} (label : V → Label) (order : V → V → Ordering) (f : Sttr Label) (tree : Tree V) (ts : List (Tree V)) (are : trees_of ts ≡ children_of tree) where
  -- a call on a child that isn't there
  pub call_nothing : (q j : ℕ) (xs : List (Cut V)) (far : Option ℤ) → length ts ≤ j → xs ≡ [] → far ≡ None → IsCallFoundAt label order keeps Outside f q j (children_of tree) (listed xs far)
  call_nothing q j xs far past e g =
      subst (λ ys. IsCallFoundAt label order keeps Outside f q j (children_of tree) (listed ys far)) (sym e)
      (subst (λ a. IsCallFoundAt {N = ℤ} label order keeps Outside f q j (children_of tree) (listed [] a)) (sym g) (none _ _ _ _ _ (GivesAt f (run q) j (relabel_all label (children_of tree))) (subst (λ us. (u : Tree Label) → GivesAt f (run q) j (relabel_all label us) u → ⊥) are (beyond ts j past))))
    where
      beyond : (us : List (Tree V)) (j : ℕ) → length us ≤ j → (u : Tree Label) → GivesAt f (run q) j (relabel_all label (trees_of us)) u → ⊥
      beyond [] j h u g = g
      beyond (x ∷ us) zero h u g = omega (arith, h)
      beyond (x ∷ us) (suc j) h u g = beyond us j (omega arith) u g

-- ---- parts of terms

module _ {M : Type 0} (make : M → Label → Label) where
  with_parts : (ps : List (Term Head M)) → parts_with_maps make (parts_of ps) ≡ parts_in (map (with_maps make) ps)
  with_parts [] = refl
  with_parts (p ∷ ps) = ap (part (with_maps make p)) (with_parts ps)

  pub node_meaning : (term : Written M) (c : ℕ) (m : M) (parts : Vec (Written M) Global) → term ≡ Node c m parts → with_maps make (plain_term term) ≡ build c (make m) (parts_in (map (λ p. with_maps make (plain_term p)) parts.items))
  node_meaning term c m parts e =
      ap (λ t. with_maps make (plain_term t)) e
      ∙ ap (build c (make m)) (ap (parts_with_maps make) (parts_are parts) ∙ (with_parts (map plain_term parts.items) ∙ ap parts_in (map-map (with_maps make) plain_term parts.items)))

  pub drop_part : (ps : List (Written M)) (i j : ℕ) (p : Written M) → j ≡ i + 1 → i < length ps → p ≡ get_or ps i p → parts_in (map (λ p. with_maps make (plain_term p)) (drop i ps)) ≡ part (with_maps make (plain_term p)) (parts_in (map (λ p. with_maps make (plain_term p)) (drop j ps)))
  drop_part ps i j p e l at = suc_part ps i p l at ∙ ap (λ k. part (with_maps make (plain_term p)) (parts_in (map (λ p. with_maps make (plain_term p)) (drop k ps)))) (up e)
    where
      up : j ≡ i + 1 → suc i ≡ j
      up e = omega (arith, e)

      suc_part : (ps : List (Written M)) (i : ℕ) (p : Written M) → i < length ps → p ≡ get_or ps i p → parts_in (map (λ p. with_maps make (plain_term p)) (drop i ps)) ≡ part (with_maps make (plain_term p)) (parts_in (map (λ p. with_maps make (plain_term p)) (drop (suc i) ps)))
      suc_part [] i p l at = absurd (omega (arith, l))
      suc_part (x ∷ ps) zero p l at = ap (λ z. part (with_maps make (plain_term z)) (parts_in (map (λ p. with_maps make (plain_term p)) ps))) (sym at)
      suc_part (x ∷ ps) (suc i) p l at = suc_part ps i p (omega arith) at

module _ {M : Type 0} (fits : M → Type 0) where
  maps_of_parts : (ps : List (Term Head M)) → ((m : M) → MakesByOne (parts_of ps) m → fits m) → All (EveryMap fits) ps
  maps_of_parts [] h = All-nil (EveryMap fits)
  maps_of_parts (p ∷ ps) h = All-cons (EveryMap fits) p ps (λ m b. h m (inl b)) (maps_of_parts ps (λ m b. h m (inr b)))

  pub maps_of_node : (term : Written M) (c : ℕ) (m : M) (parts : Vec (Written M) Global) → term ≡ Node c m parts → EveryMap fits (plain_term term) → fits m × All (λ p. EveryMap fits (plain_term p)) parts.items
  maps_of_node term c m parts e h =
      let all : EveryMap fits (build c m (parts_of (map plain_term parts.items))) = subst (EveryMap fits) (ap plain_term e ∙ ap (build c m) (parts_are parts)) h in (
        all m (inl refl),
        All_from_map (EveryMap fits) plain_term parts.items (maps_of_parts (map plain_term parts.items) (λ n b. all n (inr b))),
      )

-- ---- uses, one term after another

module _ {V : Type 0} (a b c : List (List (Entry V))) where
  pub keeps_twice : (m n : ℕ → ℕ → ℕ) → length b ≡ length a → KeepsUses a b m → KeepsUses b c n → KeepsUses a c (λ q k. m q k + n q k)
  keeps_twice m n l f g q k low = omega (arith, f q k low, g q k (omega (arith, l, low)))

  pub still_has : (m n : ℕ → ℕ → ℕ) → length b ≡ length a → HasUses a (λ q k. m q k + n q k) → KeepsUses a b m → HasUses b n
  still_has m n l h f q k low = omega (arith, h q k (omega (arith, l, low)), f q k (omega (arith, l, low)))

-- ---- tables that are held

pub lists_at : {V : Type 0} (items : List (Vec (Entry V) Global)) (k : ℕ) (v : Vec (Entry V) Global) → k < length items → v ≡ get_or items k v → get_or (lists_in items) k [] ≡ v.items
lists_at [] k v l e = absurd (omega (arith, l))
lists_at (x ∷ items) zero v l e = ap (λ y. y.items) (sym e)
lists_at (x ∷ items) (suc k) v l e = lists_at items k v (omega arith) e

pub lists_set : {V : Type 0} (items : List (Vec (Entry V) Global)) (k : ℕ) (v : Vec (Entry V) Global) → lists_in (set items k v) ≡ set (lists_in items) k v.items
lists_set [] k v = refl
lists_set (x ∷ items) zero v = refl
lists_set (x ∷ items) (suc k) v = ap (λ xs. x.items ∷ xs) (lists_set items k v)

pub called_itself : (q k : ℕ) → called q k q k ≡ 1
called_itself q k = ap (λ b. cond b (one q q) 0) (itself k) ∙ ap (λ b. cond b 1 0) (itself q)
  where
    itself : (n : ℕ) → (n == n) ≡ true
    itself n = same_number n n refl
