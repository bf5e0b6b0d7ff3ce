-- Terms that are met one after another.
use Rattle.std.proofs.Common.{ℕ, zero, suc, ◌≡◌, ◌+◌, ◌<◌, ◌≤◌, List, [], ◌∷◌, ◌++◌, map, length, get_or, drop, take, Vec, Global, Option, None, refl, sym, ap, subst, ◌∙◌, ◌↔◌, arith, append_assoc}
use Rattle.std.specs.Prelude.{ℤ}
use Rattle.std.specs.Cmp.{IsTotalOrder}
use Rattle.std.specs.declared.cmp.Ordering.{Ordering}
use Rattle.std.specs.declared.cmp.Ordering.TheVariants.{Equal}
use Rattle.model_tree.specs.Label.{Label}
use Rattle.model_tree.specs.Tree.{Trees, relabel_all}
use Rattle.model_sta.specs.Loads.{Load, outputs, nodes, depths}
use Rattle.model_sttr.specs.Terms.{Term, on, build, Parts, no_parts, part, with_maps, IsInstance}
use Rattle.model_sttr.specs.Transducer.{Head, Sttr, GivesAt}
use Rattle.model_sttr.specs.Cuts.{Cut, Cuts, no_cuts, IsCutAt}
use Rattle.fast_cut.specs.Cuts.{plain_cut}
use Rattle.sttr_core.specs.Terms.{plain_term}
use Rattle.sttr_core.specs.declared.term.Term.{Term as Written}
use Rattle.sttr_core.specs.declared.term.Term.TheVariants.{Call, Node}
use Rattle.sttr_core.proofs.Parts.{parts_of, parts_are}
use Rattle.apply_laws.specs.Lists.{sum_of, OneOf, merge}
use Rattle.apply_laws.specs.Listing.{first_some}
use Rattle.apply_laws.specs.Meant.{IsCutOf}
use Rattle.apply_laws.specs.Found.{Found, too_much, listed, IsProduct, IsNodeFound}
use Rattle.apply_laws.specs.Terms.{IsTermFound, ArePartsFound, AreTermsFound, IsCallFoundAt}
use Rattle.apply_laws.proofs.Calls.{of_no_part, of_part, of_build, of_no_term, of_more_terms, too_much_of, too_much_of_first}
use Rattle.apply_laws.proofs.Parts.{listed_outputs, listed_nodes}
use Rattle.sttr_apply.specs.Cuts.{cuts_in}
use Rattle.sttr_apply.specs.Labels.{keeps, Outside}
use Rattle.sttr_apply.specs.Merge.{IsJoin}
use Rattle.sttr_apply.specs.Plain.{row_cuts, cut_order}
use Rattle.sttr_apply.specs.Tables.{parts_in}
use Rattle.sttr_apply.specs.declared.outs.Row.{Row}

-- ---- how large terms are

module _ {M : Type 0} where
  abbrev mutual
    pub weight : Term Head M → ℕ
    weight (on h j) = 1
    weight (build c m ps) = suc (suc (weights ps))

    weights : Parts Head M → ℕ
    weights no_parts = 0
    weights (part p ps) = weight p + weights ps

  weights_are : (ps : List (Term Head M)) → weights (parts_of ps) ≡ sum_of weight ps
  weights_are [] = refl
  weights_are (p ∷ ps) = ap (λ n. weight p + n) (weights_are ps)

  pub weight_of_node : (term : Written M) (c : ℕ) (m : M) (parts : Vec (Written M) Global) → term ≡ Node c m parts → weight (plain_term term) ≡ suc (suc (sum_of weight (map plain_term parts.items)))
  weight_of_node term c m parts e = ap (λ t. weight (plain_term t)) e ∙ ap (λ n. suc (suc n)) (ap weights (parts_are parts) ∙ weights_are (map plain_term parts.items))

-- ---- lists that are cut in two

module _ {X Y : Type 0} (f : X → Y) where
  pub parted : (xs : List X) (i : ℕ) (x : X) → i < length xs → x ≡ get_or xs i x → map f xs ≡ map f (take i xs) ++ f x ∷ map f (drop (suc i) xs)
  parted [] i x l e = absurd (omega (arith, l))
  parted (y ∷ xs) zero x l e = ap (λ z. f z ∷ map f xs) (sym e)
  parted (y ∷ xs) (suc i) x l e = ap (λ ys. f y ∷ ys) (parted xs i x (omega arith) e)

  pub one_taken : (xs : List X) (i : ℕ) (x : X) → i < length xs → x ≡ get_or xs i x → map f (take (i + 1) xs) ≡ map f (take i xs) ++ f x ∷ []
  one_taken xs i x l e = let n : i + 1 ≡ suc i = omega arith in ap (λ n. map f (take n xs)) n ∙ taken xs i x l e
    where
      taken : (xs : List X) (i : ℕ) (x : X) → i < length xs → x ≡ get_or xs i x → map f (take (suc i) xs) ≡ map f (take i xs) ++ f x ∷ []
      taken [] i x l e = absurd (omega (arith, l))
      taken (y ∷ xs) zero x l e = ap (λ z. f z ∷ []) (sym e)
      taken (y ∷ xs) (suc i) x l e = ap (λ ys. f y ∷ ys) (taken xs i x (omega arith) e)

  module _ (h : Y → ℕ) where
    pub sum_at : (xs : List X) (i : ℕ) (x : X) → i < length xs → x ≡ get_or xs i x → h (f x) ≤ sum_of h (map f xs)
    sum_at [] i x l e = absurd (omega (arith, l))
    sum_at (y ∷ xs) zero x l e = omega (arith, ap (λ z. h (f z)) e)
    sum_at (y ∷ xs) (suc i) x l e = omega (arith, sum_at xs i x (omega arith) e)

    pub sum_dropped : (xs : List X) (i j : ℕ) (x : X) → j ≡ i + 1 → i < length xs → x ≡ get_or xs i x → sum_of h (map f (drop i xs)) ≡ h (f x) + sum_of h (map f (drop j xs))
    sum_dropped xs i j x n l e = let m : suc i ≡ j = omega (arith, n) in dropped xs i x l e ∙ ap (λ k. h (f x) + sum_of h (map f (drop k xs))) m
      where
        dropped : (xs : List X) (i : ℕ) (x : X) → i < length xs → x ≡ get_or xs i x → sum_of h (map f (drop i xs)) ≡ h (f x) + sum_of h (map f (drop (suc i) xs))
        dropped [] i x l e = absurd (omega (arith, l))
        dropped (y ∷ xs) zero x l e = ap (λ z. h (f z) + sum_of h (map f xs)) (sym e)
        dropped (y ∷ xs) (suc i) x l e = dropped xs i x (omega arith) e

    pub sum_in_two : (xs : List X) (i : ℕ) → sum_of h (map f (take i xs)) + sum_of h (map f (drop i xs)) ≡ sum_of h (map f xs)
    sum_in_two xs zero = omega arith
    sum_in_two [] (suc i) = omega arith
    sum_in_two (x ∷ xs) (suc i) = omega (arith, sum_in_two xs i)

drop_end : {X : Type 0} (xs : List X) → drop (length xs) xs ≡ []
drop_end [] = refl
drop_end (x ∷ xs) = drop_end xs

-- ---- what is found

pub rows_start : {V : Type 0} (rows olds : List (Row V)) (row : Row V) → rows ≡ olds ++ row ∷ [] → olds ≡ [] → row.parts.items ≡ [] → map row_cuts rows ≡ no_cuts ∷ []
rows_start rows olds row e o p = ap (map row_cuts) e ∙ (ap (λ xs. map row_cuts (xs ++ row ∷ [])) o ∙ ap (λ ys. cuts_in (map plain_cut ys) ∷ []) p)

module _ {V : Type 0} (label : V → Label) (order : V → V → Ordering) (total : IsTotalOrder order) (same : (v w : V) → (order v w ≡ Equal) ↔ (label v ≡ label w)) (f : Sttr Label) (ts : Trees V) (l : Label) where
  pub parts_start : {X : Type 0} (of : X → Term Head (Label → Label)) (ps : List X) (rows : List (Cuts V)) → rows ≡ no_cuts ∷ [] → ArePartsFound {N = ℤ} label order keeps Outside f ts l (parts_in (map of (drop (length ps) ps))) (listed rows None)
  parts_start of ps rows e =
      subst (λ qs. ArePartsFound {N = ℤ} label order keeps Outside f ts l (parts_in (map of qs)) (listed rows None)) (sym (drop_end ps))
      (subst (λ r. ArePartsFound {N = ℤ} label order keeps Outside f ts l no_parts (listed r None)) (sym e) (of_no_part label order keeps Outside total same (λ h j k. IsCutAt f h j (relabel_all label ts) k) (λ h j u. GivesAt f h j (relabel_all label ts) u) l))

  pub part_found : (p : Term Head (Label → Label)) (ps all : Parts Head (Label → Label)) (found : Found (Cut V) ℤ) (more r : Found (Cuts V) ℤ) → all ≡ part p ps → IsTermFound label order keeps Outside f ts l p found → ArePartsFound label order keeps Outside f ts l ps more → IsProduct label found more r → ArePartsFound label order keeps Outside f ts l all r
  part_found p ps all found more r e h k i =
      subst (λ qs. ArePartsFound label order keeps Outside f ts l qs r) (sym e)
      (of_part label order keeps Outside total same (λ h j k. IsCutAt f h j (relabel_all label ts) k) (λ h j u. GivesAt f h j (relabel_all label ts) u) l p ps found more h k r i)

  pub node_found : (p : Term Head (Label → Label)) (c : ℕ) (m : Label → Label) (ps : Parts Head (Label → Label)) (more : Found (Cuts V) ℤ) (found : Found (Cut V) ℤ) → p ≡ build c m ps → ArePartsFound label order keeps Outside f ts l ps more → IsNodeFound label keeps Outside c (m l) more found → IsTermFound label order keeps Outside f ts l p found
  node_found p c m ps more found e h i =
      subst (λ q. IsTermFound label order keeps Outside f ts l q found) (sym e)
      (of_build label order keeps Outside total same (λ h j k. IsCutAt f h j (relabel_all label ts) k) (λ h j u. GivesAt f h j (relabel_all label ts) u) l c m ps more h found i)

  pub call_found : {M : Type 0} (make : M → Label → Label) (term : Written M) (q j : ℕ) (found : Found (Cut V) ℤ) → term ≡ Call q j → IsCallFoundAt label order keeps Outside f q j ts found → IsTermFound label order keeps Outside f ts l (with_maps make (plain_term term)) found
  call_found make term q j found e h = subst (λ t. IsTermFound label order keeps Outside f ts l (with_maps make (plain_term t)) found) (sym e) h

  -- ---- some terms

  pub terms_none : (ps : List (Term Head (Label → Label))) (xs : List (Cut V)) (a : Option ℤ) → ps ≡ [] → xs ≡ [] → a ≡ None → AreTermsFound label order keeps Outside f ts l ps (listed xs a)
  terms_none ps xs a p e g =
      subst (λ qs. AreTermsFound label order keeps Outside f ts l qs (listed xs a)) (sym p)
      (subst (λ ys. AreTermsFound label order keeps Outside f ts l [] (listed ys a)) (sym e)
      (subst (λ b. AreTermsFound label order keeps Outside f ts l [] (listed [] b)) (sym g) (of_no_term label order keeps Outside total same (λ h j k. IsCutAt f h j (relabel_all label ts) k) (λ h j u. GivesAt f h j (relabel_all label ts) u) l)))

  both_found : (ps : List (Term Head (Label → Label))) (p : Term Head (Label → Label)) (xs ys : List (Cut V)) (a b : Option ℤ) → AreTermsFound label order keeps Outside f ts l ps (listed xs a) → IsTermFound label order keeps Outside f ts l p (listed ys b)
      → AreTermsFound label order keeps Outside f ts l (ps ++ p ∷ []) (listed (merge (cut_order order) xs ys) (first_some a b))
  both_found ps p xs ys a b h k = of_more_terms label order keeps Outside total same (λ h j k. IsCutAt f h j (relabel_all label ts) k) (λ h j u. GivesAt f h j (relabel_all label ts) u) l ps p xs ys a b h k

  pub terms_more : (ps : List (Term Head (Label → Label))) (p : Term Head (Label → Label)) (all : List (Term Head (Label → Label))) (xs ys zs : List (Cut V)) (a b far : Option ℤ) → all ≡ ps ++ p ∷ []
      → AreTermsFound label order keeps Outside f ts l ps (listed xs a) → IsTermFound label order keeps Outside f ts l p (listed ys b) → IsJoin (cut_order order) xs a ys b (listed zs far) → AreTermsFound label order keeps Outside f ts l all (listed zs far)
  terms_more ps p all xs ys zs a b far e h k (z, g) =
      subst (λ qs. AreTermsFound label order keeps Outside f ts l qs (listed zs far)) (sym e)
      (subst (λ us. AreTermsFound label order keeps Outside f ts l (ps ++ p ∷ []) (listed us far)) (sym z)
      (subst (λ n. AreTermsFound label order keeps Outside f ts l (ps ++ p ∷ []) (listed (merge (cut_order order) xs ys) n)) (sym g) (both_found ps p xs ys a b h k)))

  -- too much of the next term
  pub term_too_much : (ps : List (Term Head (Label → Label))) (p : Term Head (Label → Label)) (more all : List (Term Head (Label → Label))) (a : Load) → all ≡ ps ++ p ∷ more → IsTermFound {N = ℤ} label order keeps Outside f ts l p (too_much a) → AreTermsFound {N = ℤ} label order keeps Outside f ts l all (too_much a)
  term_too_much ps p more all a e h =
      subst (λ qs. AreTermsFound {N = ℤ} label order keeps Outside f ts l qs (too_much a)) (sym e)
      (too_much_of label order keeps Outside total same (λ h j k. IsCutAt f h j (relabel_all label ts) k) (λ h j u. GivesAt f h j (relabel_all label ts) u) l ps p more a h)

  -- too much of the terms up to the next one
  pub join_too_much : (ps : List (Term Head (Label → Label))) (p : Term Head (Label → Label)) (more all : List (Term Head (Label → Label))) (xs ys : List (Cut V)) (a b : Option ℤ) (load : Load) → all ≡ ps ++ p ∷ more
      → AreTermsFound label order keeps Outside f ts l ps (listed xs a) → IsTermFound label order keeps Outside f ts l p (listed ys b) → IsJoin (cut_order order) xs a ys b (too_much load) → AreTermsFound {N = ℤ} label order keeps Outside f ts l all (too_much load)
  join_too_much ps p more all xs ys a b load e h k i =
      subst (λ qs. AreTermsFound {N = ℤ} label order keeps Outside f ts l qs (too_much load)) (append_assoc ps (p ∷ []) more ∙ sym e)
      (too_much_of_first label order keeps Outside total same (λ h j k. IsCutAt f h j (relabel_all label ts) k) (λ h j u. GivesAt f h j (relabel_all label ts) u) l (ps ++ p ∷ []) more load (passes load i))
    where
      passes : (load : Load) → IsJoin (cut_order order) xs a ys b (too_much load) → AreTermsFound {N = ℤ} label order keeps Outside f ts l (ps ++ p ∷ []) (too_much load)
      passes outputs i = listed_outputs label order keeps Outside total same (λ x. OneOf (λ p. IsCutOf label (λ h j k. IsCutAt f h j (relabel_all label ts) k) l p x) (ps ++ p ∷ [])) (λ u. OneOf (λ p. IsInstance (λ h j u. GivesAt f h j (relabel_all label ts) u) l p u) (ps ++ p ∷ [])) _ _ (both_found ps p xs ys a b h k) i
      passes nodes i = listed_nodes label order keeps Outside total same (λ x. OneOf (λ p. IsCutOf label (λ h j k. IsCutAt f h j (relabel_all label ts) k) l p x) (ps ++ p ∷ [])) (λ u. OneOf (λ p. IsInstance (λ h j u. GivesAt f h j (relabel_all label ts) u) l p u) (ps ++ p ∷ [])) _ _ (both_found ps p xs ys a b h k) i
      passes depths i = absurd i
