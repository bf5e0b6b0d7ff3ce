-- What is found of a call, term by term.
use Rattle.std.proofs.Common.{ℕ, zero, suc, ◌≡◌, ◌<◌, ◌⊎◌, inl, inr, Bool, true, false, cond, List, [], ◌∷◌, ◌++◌, length, Option, None, refl, sym, subst, ◌↔◌, arith}
use Rattle.std.proofs.lemmas.Bool.{and_parts}
use Rattle.std.specs.Prelude.{Contains, slice_index_or}
use Rattle.std.specs.declared.cmp.Ordering.{Ordering}
use Rattle.std.specs.declared.cmp.Ordering.TheVariants.{Equal}
use Rattle.std.specs.Cmp.{IsTotalOrder}
use Rattle.std.proofs.lemmas.Cmp.{on_total}
use Rattle.model_tree.specs.Tree.{Tree, node, Trees, no_trees, tree, relabel, relabel_all, node_count, depth}
use Rattle.model_tree.specs.TreeOrder.{tree_cmp}
use Rattle.model_sta.specs.Automaton.{Rule, rule_applies}
use Rattle.model_sta.specs.Loads.{Load}
use Rattle.model_sta.proofs.TreeOrder.{tree_total, tree_same}
use Rattle.model_sttr.specs.Terms.{Term, build, Parts, no_parts, part, IsInstance, AreInstances}
use Rattle.model_sttr.specs.Transducer.{Head, identity, run, OutRule, Sttr, out_rules, Gives, GivesAt}
use Rattle.model_sttr.specs.Cuts.{Cut, keep, new, Cuts, no_cuts, cut, tree_of, AreMadeBy, IsCutAt}
use Rattle.apply_laws.specs.Lists.{OneOf, merge}
use Rattle.apply_laws.specs.Meant.{all_meant, IsCutOf, AreCutsOf, GivesCut, GivesCutAt}
use Rattle.apply_laws.specs.Listing.{kept_at, Both, BothTrees, NodeOver, MadeOver, first_some, all_kept, each_kept, HasOutside, ListsCuts}
use Rattle.apply_laws.specs.Found.{Found, too_much, listed, IsFound, AreFound, IsProduct, IsNodeFound}
use Rattle.apply_laws.specs.Reached.{terms_of}
use Rattle.apply_laws.proofs.Listed.{alike, union, none, single}
use Rattle.apply_laws.proofs.Products.{empty_row}
use Rattle.apply_laws.proofs.Passing.{passes_alike}
use Rattle.apply_laws.proofs.Parts.{found_alike, are_found_alike, found_before, found_over}

module _ {X : Type 0} (P : X → Type 0) where
  pub one_of_contained : (xs : List X) (k : ℕ) (x : X) → k < length xs → slice_index_or xs k x ≡ x → P x → OneOf P xs
  one_of_contained [] k x l e p = absurd (omega arith)
  one_of_contained (y ∷ ys) zero x l e p = inl (subst P (sym e) p)
  one_of_contained (y ∷ ys) (suc k) x l e p = inr (one_of_contained ys k x (omega arith) e p)

  pub contained_one_of : (xs : List X) → OneOf P xs → (x : X) × Contains xs x × P x
  contained_one_of [] o = absurd o
  contained_one_of (x ∷ xs) (inl p) = (x, (0, omega arith, refl), p)
  contained_one_of (x ∷ xs) (inr o) = let r = contained_one_of xs o in (r.0, (suc r.1.0, omega (arith, r.1.1), r.1.2), r.2)

  pub one_left : (xs ys : List X) → OneOf P xs → OneOf P (xs ++ ys)
  one_left [] ys o = absurd o
  one_left (x ∷ xs) ys (inl p) = inl p
  one_left (x ∷ xs) ys (inr o) = inr (one_left xs ys o)

  pub one_right : (xs ys : List X) → OneOf P ys → OneOf P (xs ++ ys)
  one_right [] ys o = o
  one_right (x ∷ xs) ys o = inr (one_right xs ys o)

  pub one_either : (xs ys : List X) → OneOf P (xs ++ ys) → OneOf P xs ⊎ OneOf P ys
  one_either [] ys o = inr o
  one_either (x ∷ xs) ys (inl p) = inl (inl p)
  one_either (x ∷ xs) ys (inr o) = elim (one_either xs ys o) [ inl q ↦ inl (inr q) | inr q ↦ inr q ]

  one_last : (xs : List X) (x : X) → OneOf P (xs ++ x ∷ []) → OneOf P xs ⊎ P x
  one_last xs x o = elim (one_either xs (x ∷ []) o) [ inl q ↦ inl q | inr q ↦ elim q [ inl p ↦ inr p | inr n ↦ absurd n ] ]

  last_one : (xs : List X) (x : X) → OneOf P xs ⊎ P x → OneOf P (xs ++ x ∷ [])
  last_one xs x (inl o) = one_left xs (x ∷ []) o
  last_one xs x (inr p) = one_right xs (x ∷ []) (inl p)

module _ {V L N : Type 0} (label : V → L) (order : V → V → Ordering) (keeps : L → Bool) (Outside : L → N → Type 0) (total : IsTotalOrder order) (same : (v w : V) → (order v w ≡ Equal) ↔ (label v ≡ label w)) where
  module _ (O : Head → ℕ → Cut L → Type 0) (P : Head → ℕ → Tree L → Type 0) (l : L) where
    -- what is found of a term, and of parts
    abbrev pub OfTerm : Term Head (L → L) → Found (Cut V) N → Type 0
    OfTerm p found = IsFound label order keeps Outside (IsCutOf label O l p) (IsInstance P l p) found

    abbrev pub OfParts : Parts Head (L → L) → Found (Cuts V) N → Type 0
    OfParts ps found = AreFound label order keeps Outside (AreCutsOf label O l ps) (AreInstances P l ps) found

    pub of_no_part : OfParts no_parts (listed (no_cuts ∷ []) None)
    of_no_part = alike _ _ _ _ (λ xs. xs ≡ no_cuts) (AreCutsOf label O l no_parts) (λ ts. ts ≡ no_trees) (AreInstances P l no_parts) (λ xs e. subst (AreCutsOf label O l no_parts) (sym e) tt) (λ ts. (λ e. subst (AreInstances P l no_parts) (sym e) tt, ended ts)) (no_cuts ∷ []) None (empty_row label order keeps Outside total same)
      where
        ended : (ts : Trees L) → AreInstances P l no_parts ts → ts ≡ no_trees
        ended no_trees r = refl
        ended (tree t ts) r = absurd r

    pub of_part : (p : Term Head (L → L)) (ps : Parts Head (L → L)) (found : Found (Cut V) N) (more : Found (Cuts V) N) → OfTerm p found → OfParts ps more → (all : Found (Cuts V) N) → IsProduct label found more all → OfParts (part p ps) all
    of_part p ps found more h k all i = are_found_alike label order keeps Outside total same
        (Both (IsCutOf label O l p) (AreCutsOf label O l ps)) (AreCutsOf label O l (part p ps)) (BothTrees (IsInstance P l p) (AreInstances P l ps)) (AreInstances P l (part p ps))
        cuts (λ us. (there us, back us)) all
        (found_before label order keeps Outside total same (IsCutOf label O l p) (AreCutsOf label O l ps) (IsInstance P l p) (AreInstances P l ps) still found more h k all i)
      where
        cuts : (xs : Cuts V) → Both (IsCutOf label O l p) (AreCutsOf label O l ps) xs → AreCutsOf label O l (part p ps) xs
        cuts no_cuts r = absurd r
        cuts (cut x xs) r = r

        apart : (xs : Cuts V) → AreCutsOf label O l (part p ps) xs → Both (IsCutOf label O l p) (AreCutsOf label O l ps) xs
        apart no_cuts r = absurd r
        apart (cut x xs) r = r

        still : (xs ys : Cuts V) → all_meant label xs ≡ all_meant label ys → Both (IsCutOf label O l p) (AreCutsOf label O l ps) xs → Both (IsCutOf label O l p) (AreCutsOf label O l ps) ys
        still xs ys e r = apart ys (subst (AreMadeBy O l (part p ps)) e (cuts xs r))

        there : (us : Trees L) → BothTrees (IsInstance P l p) (AreInstances P l ps) us → AreInstances P l (part p ps) us
        there no_trees r = absurd r
        there (tree u us) r = r

        back : (us : Trees L) → AreInstances P l (part p ps) us → BothTrees (IsInstance P l p) (AreInstances P l ps) us
        back no_trees r = absurd r
        back (tree u us) r = r

    pub of_build : (c : ℕ) (m : L → L) (ps : Parts Head (L → L)) (more : Found (Cuts V) N) → OfParts ps more → (found : Found (Cut V) N) → IsNodeFound label keeps Outside c (m l) more found → OfTerm (build c m ps) found
    of_build c m ps more h found i = found_alike label order keeps Outside total same
        (MadeOver label c (m l) (AreCutsOf label O l ps)) (IsCutOf label O l (build c m ps)) (NodeOver c (m l) (AreInstances P l ps)) (IsInstance P l (build c m ps))
        cuts (λ u. (there u, back u)) found (found_over label order keeps Outside total same c (m l) (AreCutsOf label O l ps) (AreInstances P l ps) more h found i)
      where
        cuts : (x : Cut V) → MadeOver label c (m l) (AreCutsOf label O l ps) x → IsCutOf label O l (build c m ps) x
        cuts (keep t) r = absurd r
        cuts (new d v xs) r = r

        there : (u : Tree L) → NodeOver c (m l) (AreInstances P l ps) u → IsInstance P l (build c m ps) u
        there (node d k us) r = r

        back : (u : Tree L) → IsInstance P l (build c m ps) u → NodeOver c (m l) (AreInstances P l ps) u
        back (node d k us) r = r

    -- ---- some terms

    abbrev pub OfTerms : List (Term Head (L → L)) → Found (Cut V) N → Type 0
    OfTerms ps found = IsFound label order keeps Outside (λ x. OneOf (λ p. IsCutOf label O l p x) ps) (λ u. OneOf (λ p. IsInstance P l p u) ps) found

    pub of_no_term : OfTerms [] (listed [] None)
    of_no_term = none _ _ _ _ (λ x. OneOf (λ p. IsCutOf label O l p x) []) (λ u. OneOf (λ p. IsInstance P l p u) []) (λ u g. g)

    -- one more term
    pub of_more_terms : (ps : List (Term Head (L → L))) (p : Term Head (L → L)) (xs ys : List (Cut V)) (a b : Option N) → OfTerms ps (listed xs a) → OfTerm p (listed ys b)
        → OfTerms (ps ++ p ∷ []) (listed (merge (λ x y. tree_cmp order (tree_of x) (tree_of y)) xs ys) (first_some a b))
    of_more_terms ps p xs ys a b h k = alike _ _ _ _ _ (λ x. OneOf (λ p. IsCutOf label O l p x) (ps ++ p ∷ [])) _ (λ u. OneOf (λ p. IsInstance P l p u) (ps ++ p ∷ []))
        (λ x. last_one (λ p. IsCutOf label O l p x) ps p) (λ u. (last_one (λ p. IsInstance P l p u) ps p, one_last (λ p. IsInstance P l p u) ps p)) _ _
        (union (λ x. relabel label (tree_of x)) (λ x y. tree_cmp order (tree_of x) (tree_of y)) (all_kept keeps) (HasOutside Outside) (on_total tree_of (tree_total order total)) (λ x y. tree_same order total label same (tree_of x) (tree_of y))
        (λ x. OneOf (λ p. IsCutOf label O l p x) ps) (IsCutOf label O l p) (λ u. OneOf (λ p. IsInstance P l p u) ps) (IsInstance P l p) xs ys a b h k)

    -- too much of one term, or of some of them, is too much of all
    pub too_much_of : (ps : List (Term Head (L → L))) (p : Term Head (L → L)) (more : List (Term Head (L → L))) (a : Load) → OfTerm p (too_much a) → OfTerms (ps ++ p ∷ more) (too_much a)
    too_much_of ps p more a h = passes_alike node_count depth (IsInstance P l p) (λ u. OneOf (λ p. IsInstance P l p u) (ps ++ p ∷ more)) (λ u g. one_right (λ p. IsInstance P l p u) ps (p ∷ more) (inl g)) a h

    pub too_much_of_first : (ps more : List (Term Head (L → L))) (a : Load) → OfTerms ps (too_much a) → OfTerms (ps ++ more) (too_much a)
    too_much_of_first ps more a h = passes_alike node_count depth (λ u. OneOf (λ p. IsInstance P l p u) ps) (λ u. OneOf (λ p. IsInstance P l p u) (ps ++ more)) (λ u g. one_left (λ p. IsInstance P l p u) ps more g) a h

  -- ---- the children

  module _ (f : Sttr L) where
    -- what is found of a call on child k
    abbrev pub OfCall : ℕ → ℕ → Trees V → Found (Cut V) N → Type 0
    OfCall q k ts found = IsFound label order keeps Outside (GivesCutAt label f (run q) k ts) (GivesAt f (run q) k (relabel_all label ts)) found

    pub of_kept : (ts : Trees V) (j : ℕ) → each_kept keeps (relabel_all label ts) ≡ true → ListsCuts label order keeps Outside (GivesCutAt label f identity j ts) (GivesAt f identity j (relabel_all label ts)) (kept_at ts j) None
    of_kept no_trees j e = none _ _ _ _ (GivesCutAt label f identity j no_trees) (GivesAt f identity j no_trees) (λ u g. g)
    of_kept (tree (node c v us) ts) zero e = single _ _ _ _ (GivesCutAt label f identity zero (tree (node c v us) ts)) (GivesAt f identity zero (tree (relabel label (node c v us)) (relabel_all label ts))) (keep (node c v us)) refl refl (and_parts (all_kept keeps (relabel label (node c v us))) (each_kept keeps (relabel_all label ts)) e).0 (λ u g. g)
    of_kept (tree (node c v us) ts) (suc j) e = of_kept ts j (and_parts (all_kept keeps (relabel label (node c v us))) (each_kept keeps (relabel_all label ts)) e).1

module _ {L : Type 0} (looks : List (List (Rule L))) (t : Tree L) where
  pub applies_in : (P : Term Head (L → L) → Type 0) (rs : List (OutRule L)) → OneOf P (terms_of looks t rs) → OneOf (λ r. (rule_applies looks t r.rule ≡ true) × P r.term) rs
  applies_in P [] o = o
  applies_in P (r ∷ rs) o = split (applies_in P rs) (rule_applies looks t r.rule) refl o
    where
      split : (OneOf P (terms_of looks t rs) → OneOf (λ r. (rule_applies looks t r.rule ≡ true) × P r.term) rs) → (b : Bool) → rule_applies looks t r.rule ≡ b → OneOf P (cond b (r.term ∷ terms_of looks t rs) (terms_of looks t rs)) → OneOf (λ r. (rule_applies looks t r.rule ≡ true) × P r.term) (r ∷ rs)
      split later true e (inl p) = inl (e, p)
      split later true e (inr o) = inr (later o)
      split later false e o = inr (later o)

  pub in_applies : (P : Term Head (L → L) → Type 0) (rs : List (OutRule L)) → OneOf (λ r. (rule_applies looks t r.rule ≡ true) × P r.term) rs → OneOf P (terms_of looks t rs)
  in_applies P [] o = o
  in_applies P (r ∷ rs) (inl (e, p)) = subst (λ b. OneOf P (cond b (r.term ∷ terms_of looks t rs) (terms_of looks t rs))) (sym e) (inl p)
  in_applies P (r ∷ rs) (inr o) = split (rule_applies looks t r.rule) (in_applies P rs o)
    where
      split : (b : Bool) → OneOf P (terms_of looks t rs) → OneOf P (cond b (r.term ∷ terms_of looks t rs) (terms_of looks t rs))
      split true o = inr o
      split false o = o

module _ {V L N : Type 0} (label : V → L) (order : V → V → Ordering) (keeps : L → Bool) (Outside : L → N → Type 0) (total : IsTotalOrder order) (same : (v w : V) → (order v w ≡ Equal) ↔ (label v ≡ label w)) (f : Sttr L) where
  -- a state gives what the terms of its rules that apply give
  pub of_state : (q c : ℕ) (v : V) (ts : Trees V) (found : Found (Cut V) N)
      → OfTerms label order keeps Outside total same (λ h j k. IsCutAt f h j (relabel_all label ts) k) (λ h j u. GivesAt f h j (relabel_all label ts) u) (label v) (terms_of f.looks (node c (label v) (relabel_all label ts)) (out_rules f q)) found
      → IsFound label order keeps Outside (GivesCut label f (run q) (node c v ts)) (Gives f (run q) (node c (label v) (relabel_all label ts))) found
  of_state q c v ts found h = found_alike label order keeps Outside total same _ (GivesCut label f (run q) (node c v ts)) _ (Gives f (run q) (node c (label v) (relabel_all label ts)))
      (λ x o. let r = contained_one_of _ (out_rules f q) (applies_in f.looks (node c (label v) (relabel_all label ts)) (λ p. IsCutOf label (λ h j k. IsCutAt f h j (relabel_all label ts) k) (label v) p x) (out_rules f q) o) in (r.0, r.1, r.2.0, r.2.1))
      (λ u. (
        λ o. let r = contained_one_of _ (out_rules f q) (applies_in f.looks (node c (label v) (relabel_all label ts)) (λ p. IsInstance (λ h j u. GivesAt f h j (relabel_all label ts) u) (label v) p u) (out_rules f q) o) in (r.0, r.1, r.2.0, r.2.1),
        λ g. in_applies f.looks (node c (label v) (relabel_all label ts)) (λ p. IsInstance (λ h j u. GivesAt f h j (relabel_all label ts) u) (label v) p u) (out_rules f q)
            (one_of_contained (λ r. (rule_applies f.looks (node c (label v) (relabel_all label ts)) r.rule ≡ true) × IsInstance (λ h j u. GivesAt f h j (relabel_all label ts) u) (label v) r.term u) (out_rules f q) g.1.0 g.0 g.1.1 g.1.2 (g.2, g.3)),
      ))
      found h
