-- Terms with equal maps.
use Rattle.std.proofs.Common.{◌≡◌, ◌+◌, ℕ, Bool, true, List, [], ◌∷◌, ◌++◌, map, take, Vec, Global, All, refl, sym, ap, subst, ◌∙◌, inl, inr, arith}
use Rattle.std.proofs.lemmas.List.{map-append, append-nil, append_assoc}
use Rattle.std.proofs.lemmas.List.Elements.{All-cons, All-tail}
use Rattle.model_sttr.specs.Guards.{MakesByOne}
use Rattle.model_sttr.specs.Terms.{Term, on, build, Parts, no_parts, part}
use Rattle.sttr_core.specs.Fits.{EveryMap}
use Rattle.sttr_run.specs.Drafts.{parts_of, IsCopy, AreCopies, AllCopies, AddsCopies}
use Rattle.sttr_run.specs.Plain.{plain_triple, plain_way_term, plain_way_parts}
use Rattle.sttr_run.specs.declared.triples.Triple.{Triple}
use Rattle.sttr_run.specs.declared.triples.WayTerm.{WayTerm, Row_of-WayTerm, end_of-WayTerm, more_of-WayTerm, items-the_row-WayTerm, items_hidden-the_row-WayTerm-0}
use Rattle.sttr_run.specs.declared.triples.WayTerm.TheVariants.{Call, Node}
use Rattle.sttr_run.specs.declared.triples.WayTerm.TheBlock.{hidden-the_row-WayTerm-0}

module _ {M : Type 0} where
  items : {n : _} (ps : Row_of-WayTerm M n) → plain_way_parts ps ≡ parts_of (map plain_way_term (items-the_row-WayTerm M _ ps))
  items end_of-WayTerm = refl
  items (more_of-WayTerm p ps) = ap (part (plain_way_term p)) (items ps)

  pub way_parts : (v : Vec (WayTerm M) Global) → plain_way_parts (hidden-the_row-WayTerm-0 M v) ≡ parts_of (map plain_way_term v.items)
  way_parts v = items (hidden-the_row-WayTerm-0 M v) ∙ ap (λ ps. parts_of (map plain_way_term ps)) (items_hidden-the_row-WayTerm-0 M v)

  pub node_is : (c : ℕ) (m : M) (v : Vec (WayTerm M) Global) → plain_way_term (Node c m v) ≡ build c m (parts_of (map plain_way_term v.items))
  node_is c m v = ap (build c m) (way_parts v)

module _ {H M : Type 0} (eq : M → M → Bool) where
  pub copies_more : (xs ys : List (Term H M)) (x y : Term H M) → AllCopies eq xs ys → IsCopy eq x y → AllCopies eq (xs ++ x ∷ []) (ys ++ y ∷ [])
  copies_more [] [] x y a c = (c, tt)
  copies_more [] (q ∷ qs) x y a c = absurd a
  copies_more (p ∷ ps) [] x y a c = absurd a
  copies_more (p ∷ ps) (q ∷ qs) x y a c = (a.0, copies_more ps qs x y a.1 c)

  pub copies_both : (xs ys us vs : List (Term H M)) → AllCopies eq xs ys → AllCopies eq us vs → AllCopies eq (xs ++ us) (ys ++ vs)
  copies_both [] [] us vs a b = b
  copies_both [] (q ∷ qs) us vs a b = absurd a
  copies_both (p ∷ ps) [] us vs a b = absurd a
  copies_both (p ∷ ps) (q ∷ qs) us vs a b = (a.0, copies_both ps qs us vs a.1 b)

  pub parts_copied : (ps qs : List (Term H M)) → AllCopies eq ps qs → AreCopies eq (parts_of ps) (parts_of qs)
  parts_copied [] [] a = tt
  parts_copied [] (q ∷ qs) a = absurd a
  parts_copied (p ∷ ps) [] a = absurd a
  parts_copied (p ∷ ps) (q ∷ qs) a = (a.0, parts_copied ps qs a.1)

module _ {M : Type 0} (eq : M → M → Bool) where
  -- a call is copied with its triple
  pub call_copied : (t : WayTerm M) (x y : Triple) (j : ℕ) → t ≡ Call x j → plain_triple y ≡ plain_triple x → IsCopy eq (plain_way_term (Call y j)) (plain_way_term t)
  call_copied t x y j is e = subst (λ t. IsCopy eq (plain_way_term (Call y j)) (plain_way_term t)) (sym is) (e, refl)

  -- a node with its map and its parts
  pub node_copied : (t : WayTerm M) (c : ℕ) (m n : M) (v w : Vec (WayTerm M) Global) → t ≡ Node c m v → eq n m ≡ true → AllCopies eq (map plain_way_term w.items) (map plain_way_term v.items) → IsCopy eq (plain_way_term (Node c n w)) (plain_way_term t)
  node_copied t c m n v w is e all =
      subst (λ t. IsCopy eq (plain_way_term (Node c n w)) (plain_way_term t)) (sym is)
      (refl, e, subst (λ ps. AreCopies eq ps (plain_way_parts (hidden-the_row-WayTerm-0 M v))) (sym (way_parts w)) (subst (AreCopies eq (parts_of (map plain_way_term w.items))) (sym (way_parts v)) (parts_copied eq (map plain_way_term w.items) (map plain_way_term v.items) all)))

  pub copied_more : (ws : List (WayTerm M)) (vs : List (WayTerm M)) (i : ℕ) (w v : WayTerm M) → take (i + 1) vs ≡ take i vs ++ v ∷ [] → AllCopies eq (map plain_way_term ws) (map plain_way_term (take i vs)) → IsCopy eq (plain_way_term w) (plain_way_term v) → AllCopies eq (map plain_way_term (ws ++ w ∷ [])) (map plain_way_term (take (i + 1) vs))
  copied_more ws vs i w v e all c =
      subst (λ us. AllCopies eq us (map plain_way_term (take (i + 1) vs))) (sym (map-append plain_way_term ws (w ∷ [])))
      (subst (λ us. AllCopies eq (map plain_way_term ws ++ plain_way_term w ∷ []) us) (sym (ap (map plain_way_term) e ∙ map-append plain_way_term (take i vs) (v ∷ []))) (copies_more eq (map plain_way_term ws) (map plain_way_term (take i vs)) (plain_way_term w) (plain_way_term v) all c))

module _ {H M : Type 0} (eq : M → M → Bool) (P : M → Type 0) (closed : (m n : M) → eq m n ≡ true → P n → P m) where
  mutual
    -- what holds of maps holds of equal ones
    pub copy_maps : (p q : Term H M) → IsCopy eq p q → EveryMap P q → EveryMap P p
    copy_maps (on h j) q c every m by = absurd by
    copy_maps (build c m ps) (on k i) x every n by = absurd x
    copy_maps (build c m ps) (build d m' qs) x every n (inl e) = subst P e (closed m m' x.1 (every m' (inl refl)))
    copy_maps (build c m ps) (build d m' qs) x every n (inr by) = copy_maps_in ps qs x.2 (λ k b. every k (inr b)) n by

    pub copy_maps_in : (ps qs : Parts H M) → AreCopies eq ps qs → ((m : M) → MakesByOne qs m → P m) → (m : M) → MakesByOne ps m → P m
    copy_maps_in no_parts qs c every m by = absurd by
    copy_maps_in (part p ps) no_parts c every m by = absurd c
    copy_maps_in (part p ps) (part q qs) c every m (inl by) = copy_maps p q c.0 (λ k b. every k (inl b)) m by
    copy_maps_in (part p ps) (part q qs) c every m (inr by) = copy_maps_in ps qs c.1 (λ k b. every k (inr b)) m by

  pub all_copies_maps : (ps qs : List (Term H M)) → AllCopies eq ps qs → All (EveryMap P) qs → All (EveryMap P) ps
  all_copies_maps [] qs a every = λ k d low. absurd (omega (arith, low))
  all_copies_maps (p ∷ ps) [] a every = absurd a
  all_copies_maps (p ∷ ps) (q ∷ qs) a every =
      All-cons (EveryMap P) p ps (copy_maps p q a.0 (every 0 q (omega arith))) (all_copies_maps ps qs a.1 (All-tail (EveryMap P) q qs every))

module _ {M : Type 0} (eq : M → M → Bool) where
  pub added_none : (ws : List (WayTerm M)) → AddsCopies eq (map plain_way_term ws) (map plain_way_term ws) []
  added_none ws = ([], sym (append-nil (map plain_way_term ws)), tt)

  pub added_more : (new old : List (WayTerm M)) (vs : List (WayTerm M)) (i : ℕ) (w v : WayTerm M) → take (i + 1) vs ≡ take i vs ++ v ∷ [] → AddsCopies eq (map plain_way_term new) (map plain_way_term old) (map plain_way_term (take i vs)) → IsCopy eq (plain_way_term w) (plain_way_term v)
      → AddsCopies eq (map plain_way_term (new ++ w ∷ [])) (map plain_way_term old) (map plain_way_term (take (i + 1) vs))
  added_more new old vs i w v e (made, is, all) c = (
    made ++ plain_way_term w ∷ [],
    map-append plain_way_term new (w ∷ []) ∙ ap (λ xs. xs ++ plain_way_term w ∷ []) is ∙ append_assoc (map plain_way_term old) made (plain_way_term w ∷ []),
    subst (AllCopies eq (made ++ plain_way_term w ∷ [])) (sym (ap (map plain_way_term) e ∙ map-append plain_way_term (take i vs) (v ∷ []))) (copies_more eq made (map plain_way_term (take i vs)) (plain_way_term w) (plain_way_term v) all c),
  )

  -- copies of two lists come to none
  pub added_both : {H : Type 0} (new mid xs ys : List (Term H M)) → AddsCopies eq mid [] xs → AddsCopies eq new mid ys → AllCopies eq new (xs ++ ys)
  added_both new mid xs ys (made, is, a) (more, is', b) = subst (λ zs. AllCopies eq zs (xs ++ ys)) (sym (is' ∙ ap (λ zs. zs ++ more) is)) (copies_both eq made xs more ys a b)
