-- What is kept of a tree that is offered, and what is taken.
use Rattle.std.proofs.Common.{ℕ, ◌≡◌, ◌<◌, ◌≤◌, ◌-◌, ◌==◌, inl, inr, Bool, true, false, true≢false, not, if◌then◌else◌, Option, None, Some, List, [], ◌∷◌, ◌++◌, get_or, set, slice_get, length, Contains, refl, sym, ap, subst, subst₂, ◌∙◌, arith, eqb-true, eq-eqb}
use Rattle.std.specs.Prelude.{IsPermutation}
use Rattle.std.specs.Bool.{beq}
use Rattle.std.specs.BinaryHeap.{heap_items, IsHeap}
use Rattle.std.specs.List.{list_any}
use Rattle.std.specs.Ordering.{nat_cmp, ordering_then}
use Rattle.std.specs.Cmp.{booleans_Decides}
use Rattle.std.specs.Cmp.Lexicographic.{pointwise}
use Rattle.std.proofs.lemmas.Bool.{cases_lt}
use Rattle.std.proofs.lemmas.Slice.Eq.{slice_eq-Decides}
use Rattle.std.proofs.lemmas.Option.{get_or_from_slice_get, slice_get_within}
use Rattle.std.proofs.lemmas.List.{length_push}
use Rattle.model_tree.specs.Label.{Label}
use Rattle.model_sta.specs.Sets.{Row}
use Rattle.model_sta.specs.Least.{Found}
use Rattle.model_sta.proofs.Reached.{same_default}
use Rattle.sta_classes.specs.Rows.{found_of}
use Rattle.sta_classes.specs.Pending.{kept_at, is_dearer, AreKept, IsPending, IsOffered, IsTaken, IsDone}
use Rattle.sta_classes.specs.declared.class.Class.{Class}
use Rattle.sta_classes.specs.declared.class.TheConstants.{CAP}
use Rattle.sta_classes.specs.declared.pending.Pending.{Pending}
use Rattle.sta_theory.proofs.Lists.{any_true}
use Rattle.sta_classes.proofs.Places.{old_at}
use Rattle.sta_classes.proofs.Offers.{dearer, not_dearer, offered_none, kept_none, offered_new, kept_new, offered_less, kept_less}

-- what a set of rows has once a row is put into it
module _ (keys keys' : List Row) (row : Row) (number : ℕ) (new : Bool) (added : new ≡ not (list_any (pointwise beq row) keys)) (made : keys' ≡ (if list_any (pointwise beq row) keys then keys else keys ++ row ∷ []))
    (stored : (k : Row) × (slice_get keys' number ≡ Some k) × (pointwise beq row k ≡ true)) where
  pub row_at : get_or keys' number [] ≡ row
  row_at = get_or_from_slice_get keys' number stored.0 [] stored.1 ∙ sym ((slice_eq-Decides booleans_Decides row stored.0 (pointwise beq row stored.0) refl).0 stored.2)

  within : number < length keys'
  within = slice_get_within keys' number stored.0 stored.1

  found : Contains keys row → list_any (pointwise beq row) keys ≡ true
  found there = any_true (pointwise beq row) keys row there ((slice_eq-Decides booleans_Decides row row (pointwise beq row row) refl).1 refl)

  not_back : (b c : Bool) → b ≡ not c → b ≡ false → c ≡ true
  not_back b true e f = refl
  not_back b false e f = absurd (true≢false (sym e ∙ f))

  not_forth : (b c : Bool) → b ≡ not c → b ≡ true → c ≡ false
  not_forth b false e f = refl
  not_forth b true e f = absurd (true≢false (sym f ∙ e))

  pub was_there : new ≡ false → keys' ≡ keys
  was_there e = made ∙ ap (λ b. if b then keys else keys ++ row ∷ []) (not_back new (list_any (pointwise beq row) keys) added e)

  pub number_there : new ≡ false → number < length keys
  number_there e = subst (λ k. number < length k) (was_there e) within

  pub is_new : new ≡ true → keys' ≡ keys ++ row ∷ []
  is_new e = made ∙ ap (λ b. if b then keys else keys ++ row ∷ []) (not_forth new (list_any (pointwise beq row) keys) added e)

  pub is_fresh : new ≡ true → ¬ Contains keys row
  is_fresh e there = true≢false (sym (found there) ∙ not_forth new (list_any (pointwise beq row) keys) added e)

  pub number_new : new ≡ true → number ≡ length keys
  number_new e = elim (cases_lt number (length keys)) [
    | inl below ↦
        absurd (is_fresh e (number, below, same_default keys number row [] below ∙ sym (old_at keys row [] number below) ∙ ap (λ k. get_or k number []) (sym (is_new e)) ∙ row_at))
    | inr past ↦ omega (arith, past, subst (λ k. number < length k) (is_new e) within, length_push keys row)
  ]

pub kept_end : {X : Type 0} (xs : List (Option X)) (i : ℕ) (x : X) → i ≡ length xs → kept_at xs i x ≡ xs ++ Some x ∷ []
kept_end xs i x e = ap (λ b. if b then xs ++ Some x ∷ [] else set xs i (Some x)) (eq-eqb i (length xs) e)

pub kept_inside : {X : Type 0} (xs : List (Option X)) (i : ℕ) (x : X) → i < length xs → kept_at xs i x ≡ set xs i (Some x)
kept_inside xs i x low = by (i == length xs) refl
  where
    by : (b : Bool) → (i == length xs) ≡ b → (if b then xs ++ Some x ∷ [] else set xs i (Some x)) ≡ set xs i (Some x)
    by true e = absurd (omega (arith, eqb-true i (length xs) e, low))
    by false e = refl

module _ {V : Type 0} (label : V → Label) (old new : Pending V) (h : AreKept old) (f : Found Label) (number : ℕ) (fresh : Bool) (added : fresh ≡ not (list_any (pointwise beq f.row) old.sets.keys)) (made : new.sets.keys ≡ (if list_any (pointwise beq f.row) old.sets.keys then old.sets.keys else old.sets.keys ++ f.row ∷ []))
    (stored : (k : Row) × (slice_get new.sets.keys number ≡ Some k) × (pointwise beq f.row k ≡ true)) where
  -- the set is there, and its candidate is as cheap
  pub offer_passed : fresh ≡ false → new.best ≡ old.best → is_dearer (get_or old.best.items number None) f.nodes ≡ false → IsOffered label old new f
  offer_passed e best few =
      let keys : new.sets.keys ≡ old.sets.keys = was_there old.sets.keys new.sets.keys f.row number fresh added made stored e in
      offered_none label old new h f number (omega (arith, number_there old.sets.keys new.sets.keys f.row number fresh added made stored e, h.many))
      (ap (λ k. get_or k number []) (sym keys) ∙ row_at old.sets.keys new.sets.keys f.row number fresh added made stored) (not_dearer (get_or old.best.items number None) f.nodes few) keys best

  pub keys_passed : fresh ≡ false → new.best ≡ old.best → new.order ≡ old.order → AreKept new
  keys_passed e best order = kept_none label old new h (was_there old.sets.keys new.sets.keys f.row number fresh added made stored e) best order

  module _ (class : Class V) (is : found_of label class ≡ f) (capped : f.nodes ≤ CAP) (pushed : IsPermutation ((CAP - f.nodes, number) ∷ heap_items old.order) (heap_items new.order))
      (heap : IsHeap (λ x y. ordering_then (nat_cmp x.0 y.0) (nat_cmp x.1 y.1)) (heap_items old.order) → IsHeap (λ x y. ordering_then (nat_cmp x.0 y.0) (nat_cmp x.1 y.1)) (heap_items new.order)) (best : new.best.items ≡ kept_at old.best.items number class) where
    at : get_or new.sets.keys number [] ≡ f.row
    at = row_at old.sets.keys new.sets.keys f.row number fresh added made stored

    -- a new set
    pub offer_first : fresh ≡ true → AreKept new × IsOffered label old new f
    offer_first e =
        let last : number ≡ length old.best.items = number_new old.sets.keys new.sets.keys f.row number fresh added made stored e ∙ h.many in
        let keys = is_new old.sets.keys new.sets.keys f.row number fresh added made stored e in
        let put : new.best.items ≡ old.best.items ++ Some class ∷ [] = best ∙ kept_end old.best.items number class last in (
          kept_new label old new h f class is capped number at pushed heap last keys put (is_fresh old.sets.keys new.sets.keys f.row number fresh added made stored e),
          offered_new label old new h f class is capped number at pushed heap last keys put,
        )

    -- a cheaper candidate
    pub offer_cheaper : fresh ≡ false → is_dearer (get_or old.best.items number None) f.nodes ≡ true → AreKept new × IsOffered label old new f
    offer_cheaper e more =
        let low : number < length old.best.items = omega (arith, number_there old.sets.keys new.sets.keys f.row number fresh added made stored e, h.many) in
        let (d, had, less) = dearer (get_or old.best.items number None) f.nodes more in
        let keys = was_there old.sets.keys new.sets.keys f.row number fresh added made stored e in
        let put : new.best.items ≡ set old.best.items number (Some class) = best ∙ kept_inside old.best.items number class low in (
          kept_less label old new h f class is capped number at pushed heap low d had less keys put,
          offered_less label old new h f class is capped number at pushed heap low d had less keys put,
        )

module _ {V : Type 0} (a s : Pending V) (sets : s.sets ≡ a.sets) (best : s.best ≡ a.best) where
  -- what is taken of one is taken of another with the same candidates
  pub taken_from : (new : Pending V) (c : Class V) → IsTaken s new c → IsTaken a new c
  taken_from new c t =
      let u : IsTaken (record { sets = a.sets; best = a.best; order = s.order }) new c = subst₂ (λ x y. IsTaken (record { sets = x; best = y; order = s.order }) new c) sets best t in
      record { sets_are = u.sets_are; member = u.member; least = u.least; better = u.better; candidates = u.candidates; settled = u.settled; count = u.count }

  pub done_from : (new : Pending V) → AreKept s → heap_items s.order ≡ [] → new.sets ≡ s.sets → new.best ≡ s.best → IsDone a new
  done_from new h empty to_sets to_best = record {
    none = λ i c p.
        let q : IsPending s i c = subst (λ b. (i < length b.items) × (get_or b.items i None ≡ Some c)) (sym best) p in
        let at = subst (λ xs. Contains xs (CAP - c.nodes, i)) empty (h.queued i c q) in
        (let low : at.0 < 0 = at.1 in omega arith);
    sets_are = to_sets ∙ sets;
    best_are = to_best ∙ best;
  }

-- the order stands for its elements alone
module _ {V : Type 0} (s t : Pending V) where
  pub same_order : AreKept s → t.sets ≡ s.sets → t.best ≡ s.best → heap_items t.order ≡ heap_items s.order → AreKept t
  same_order h sets best order = record {
    many = ap (λ z. length z.keys) sets ∙ h.many ∙ ap (λ b. length b.items) (sym best);
    apart = subst (λ z. (i m : ℕ) → i < length z.keys → m < length z.keys → get_or z.keys i [] ≡ get_or z.keys m [] → i ≡ m) (sym sets) h.apart;
    rows = λ i c p. (let (r, n) = h.rows i c (back i c p) in (r ∙ ap (λ z. get_or z.keys i []) (sym sets), n));
    queued = λ i c p. subst (λ o. Contains o (CAP - c.nodes, i)) (sym order) (h.queued i c (back i c p));
    within = λ x at. subst (λ b. x.1 < length b.items) (sym best) (h.within x (subst (λ o. Contains o x) order at));
    ordered = subst (IsHeap (λ x y. ordering_then (nat_cmp x.0 y.0) (nat_cmp x.1 y.1))) (sym order) h.ordered;
  }
    where
      back : (i : ℕ) (c : Class V) → IsPending t i c → IsPending s i c
      back i c p = subst (λ b. (i < length b.items) × (get_or b.items i None ≡ Some c)) best p
