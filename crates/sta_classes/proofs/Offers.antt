-- Facts on pending sets.
use Rattle.std.proofs.Common.{ℕ, zero, suc, ◌≡◌, ◌<◌, ◌≤◌, ◌+◌, ◌-◌, ◌==◌, ◌⊎◌, inl, inr, true, false, true≢false, Option, None, Some, List, [], ◌∷◌, ◌++◌, get_or, set, length, Contains, refl, sym, ap, subst, ◌∙◌, arith, eqb-true, eq-eqb}
use Rattle.std.specs.Prelude.{nat_lt, nat_le, IsPermutation}
use Rattle.std.specs.BinaryHeap.{heap_items, IsHeap}
use Rattle.std.specs.Ordering.{nat_cmp, ordering_then}
use Rattle.std.proofs.lemmas.Bool.{cases_lt, cases_eq, and_parts, and_from}
use Rattle.std.proofs.lemmas.List.{length_push, length-set, get_or-set_same, get_or-set_other}
use Rattle.std.proofs.lemmas.List.Sorted.{IsPermutation-sym, Contains-permutation}
use Rattle.model_tree.specs.Label.{Label}
use Rattle.model_sta.specs.Sets.{Row}
use Rattle.model_sta.specs.Least.{Found}
use Rattle.model_sta.proofs.Reached.{same_default}
use Rattle.sta_classes.specs.Rows.{found_of}
use Rattle.sta_classes.specs.Pending.{count_none, is_dearer, leaves, IsPending, AreKept, IsOffered}
use Rattle.sta_classes.specs.declared.class.Class.{Class}
use Rattle.sta_classes.specs.declared.class.TheConstants.{CAP}
use Rattle.sta_classes.specs.declared.pending.Pending.{Pending}
use Rattle.sta_theory.proofs.Lists.{first_in, later_in}
use Rattle.sta_classes.proofs.Places.{old_at, new_at}

-- ---- counts of what is none

module _ {X : Type 0} where
  pub count_push : (xs : List (Option X)) (x : X) → count_none (xs ++ Some x ∷ []) ≡ count_none xs
  count_push [] x = refl
  count_push (None ∷ xs) x = ap suc (count_push xs x)
  count_push (Some y ∷ xs) x = count_push xs x

  pub count_set : (xs : List (Option X)) (i : ℕ) (x y : X) → i < length xs → get_or xs i None ≡ Some x → count_none (set xs i (Some y)) ≡ count_none xs
  count_set [] i x y low at = absurd (omega arith)
  count_set (None ∷ xs) zero x y low at = absurd (cc)
  count_set (Some z ∷ xs) zero x y low at = refl
  count_set (None ∷ xs) (suc i) x y low at = ap suc (count_set xs i x y (omega arith) at)
  count_set (Some z ∷ xs) (suc i) x y low at = count_set xs i x y (omega arith) at

  pub count_clear : (xs : List (Option X)) (i : ℕ) (x : X) → i < length xs → get_or xs i None ≡ Some x → count_none (set xs i None) ≡ count_none xs + 1
  count_clear [] i x low at = absurd (omega arith)
  count_clear (None ∷ xs) zero x low at = absurd (cc)
  count_clear (Some z ∷ xs) zero x low at = omega arith
  count_clear (None ∷ xs) (suc i) x low at = omega (arith, count_clear xs i x (omega arith) at)
  count_clear (Some z ∷ xs) (suc i) x low at = count_clear xs i x (omega arith) at

  pub count_below : (xs : List (Option X)) → count_none xs ≤ length xs
  count_below [] = omega arith
  count_below (None ∷ xs) = omega (arith, count_below xs)
  count_below (Some x ∷ xs) = omega (arith, count_below xs)

  pub some_is : (x y : X) → Some x ≡ Some y → x ≡ y
  some_is x y e = cc

pub apart_push : (ks : List Row) (q : Row) → ((i m : ℕ) → i < length ks → m < length ks → get_or ks i [] ≡ get_or ks m [] → i ≡ m) → ¬ Contains ks q
    → (i m : ℕ) → i < length (ks ++ q ∷ []) → m < length (ks ++ q ∷ []) → get_or (ks ++ q ∷ []) i [] ≡ get_or (ks ++ q ∷ []) m [] → i ≡ m
apart_push ks q h fresh i m i_low m_low same = elim (cases_lt i (length ks)) [
  | inl i_in ↦ elim (cases_lt m (length ks)) [
    | inl m_in ↦ h i m i_in m_in (sym (old_at ks q [] i i_in) ∙ same ∙ old_at ks q [] m m_in)
    | inr m_past ↦ absurd (one i m i_in (omega (arith, m_past, m_low, length_push ks q)) same)
  ]
  | inr i_past ↦ elim (cases_lt m (length ks)) [
    | inl m_in ↦ absurd (one m i m_in (omega (arith, i_past, i_low, length_push ks q)) (sym same))
    | inr m_past ↦ omega (arith, i_past, m_past, i_low, m_low, length_push ks q)
  ]
]
  where
    one : (k n : ℕ) → k < length ks → n ≡ length ks → get_or (ks ++ q ∷ []) k [] ≡ get_or (ks ++ q ∷ []) n [] → ⊥
    one k n low e is = fresh (k, low, same_default ks k q [] low ∙ sym (old_at ks q [] k low) ∙ is ∙ new_at ks q [] n e)

module _ {V : Type 0} where
  pub dearer : (candidate : Option (Class V)) (n : ℕ) → is_dearer candidate n ≡ true → (d : Class V) × (candidate ≡ Some d) × (n < d.nodes)
  dearer None n h = absurd (true≢false (sym h))
  dearer (Some d) n h = (d, refl, less n d.nodes h)
    where
      less : (a b : ℕ) → nat_lt a b ≡ true → a < b
      less a b h = grind arith

  pub not_dearer : (candidate : Option (Class V)) (n : ℕ) → is_dearer candidate n ≡ false → (c : Class V) → candidate ≡ Some c → c.nodes ≤ n
  not_dearer candidate n h c e = most n c.nodes (sym (ap (λ o. is_dearer o n) e) ∙ h)
    where
      most : (a b : ℕ) → nat_lt a b ≡ false → b ≤ a
      most a b h = grind arith

  pub leaving : (candidate : Option (Class V)) (room : ℕ) → leaves candidate room ≡ true → (d : Class V) × (candidate ≡ Some d) × (d.nodes ≤ CAP) × (CAP - d.nodes ≡ room)
  leaving None room h = absurd (true≢false (sym h))
  leaving (Some d) room h = let (a, b) = and_parts (nat_le d.nodes CAP) (CAP - d.nodes == room) h in (d, refl, less d.nodes CAP a, eqb-true (CAP - d.nodes) room b)
    where
      less : (a b : ℕ) → nat_le a b ≡ true → a ≤ b
      less a b h = grind arith

  pub leaves_room : (c : Class V) → c.nodes ≤ CAP → leaves (Some c) (CAP - c.nodes) ≡ true
  leaves_room c low = and_from (nat_le c.nodes CAP) (CAP - c.nodes == CAP - c.nodes) (most c.nodes CAP low) (eq-eqb (CAP - c.nodes) (CAP - c.nodes) refl)
    where
      most : (a b : ℕ) → a ≤ b → nat_le a b ≡ true
      most a b h = grind arith

module _ {V : Type 0} (label : V → Label) (old new : Pending V) (h : AreKept old) where
  -- the set is there, with a candidate that is as cheap, or is settled
  pub offered_none : (f : Found Label) (number : ℕ) → number < length old.best.items → get_or old.sets.keys number [] ≡ f.row → ((c : Class V) → get_or old.best.items number None ≡ Some c → c.nodes ≤ f.nodes)
      → new.sets.keys ≡ old.sets.keys → new.best ≡ old.best → IsOffered label old new f
  offered_none f number low at few keys best = record {
    met = (number, subst (λ b. number < length b.items) (sym best) low, ap (λ k. get_or k number []) keys ∙ at, λ c is. few c (ap (λ b. get_or b.items number None) (sym best) ∙ is));
    better = λ q n m. (let (i, l, is, less) = m in (i, subst (λ b. i < length b.items) (sym best) l, ap (λ k. get_or k i []) keys ∙ is, λ c e. less c (ap (λ b. get_or b.items i None) (sym best) ∙ e)));
    candidates = λ i c p. inl (i, subst (λ b. (i < length b.items) × (get_or b.items i None ≡ Some c)) best p);
    settled = λ q. (
      (λ s. (let (i, l, is, e) = s in (i, subst (λ b. i < length b.items) best l, ap (λ k. get_or k i []) (sym keys) ∙ is, ap (λ b. get_or b.items i None) (sym best) ∙ e))),
      (λ s. (let (i, l, is, e) = s in (i, subst (λ b. i < length b.items) (sym best) l, ap (λ k. get_or k i []) keys ∙ is, ap (λ b. get_or b.items i None) best ∙ e))),
    );
    count = ap (λ b. count_none b.items) best;
  }

  pub kept_none : new.sets.keys ≡ old.sets.keys → new.best ≡ old.best → new.order ≡ old.order → AreKept new
  kept_none keys best order = record {
    many = ap length keys ∙ h.many ∙ ap (λ b. length b.items) (sym best);
    apart = subst (λ k. (i m : ℕ) → i < length k → m < length k → get_or k i [] ≡ get_or k m [] → i ≡ m) (sym keys) h.apart;
    rows = λ i c p. (let (r, n) = h.rows i c (subst (λ b. (i < length b.items) × (get_or b.items i None ≡ Some c)) best p) in (r ∙ ap (λ k. get_or k i []) (sym keys), n));
    queued = λ i c p. subst (λ o. Contains (heap_items o) (CAP - c.nodes, i)) (sym order) (h.queued i c (subst (λ b. (i < length b.items) × (get_or b.items i None ≡ Some c)) best p));
    within = λ x at. subst (λ b. x.1 < length b.items) (sym best) (h.within x (subst (λ o. Contains (heap_items o) x) order at));
    ordered = subst (λ o. IsHeap (λ x y. ordering_then (nat_cmp x.0 y.0) (nat_cmp x.1 y.1)) (heap_items o)) (sym order) h.ordered;
  }

  -- a candidate is put at a number
  module _ (f : Found Label) (class : Class V) (is : found_of label class ≡ f) (capped : f.nodes ≤ CAP) (number : ℕ) (row_at : get_or new.sets.keys number [] ≡ f.row)
      (pushed : IsPermutation ((CAP - f.nodes, number) ∷ heap_items old.order) (heap_items new.order)) (heap : IsHeap (λ x y. ordering_then (nat_cmp x.0 y.0) (nat_cmp x.1 y.1)) (heap_items old.order) → IsHeap (λ x y. ordering_then (nat_cmp x.0 y.0) (nat_cmp x.1 y.1)) (heap_items new.order)) where
    nodes_are : class.nodes ≡ f.nodes
    nodes_are = ap (λ z. z.nodes) is

    row_is : class.row ≡ get_or new.sets.keys number []
    row_is = ap (λ z. z.row) is ∙ sym row_at

    room_in : Contains (heap_items new.order) (CAP - class.nodes, number)
    room_in = Contains-permutation _ _ (CAP - class.nodes, number) pushed (subst (λ n. Contains ((CAP - f.nodes, number) ∷ heap_items old.order) (CAP - n, number)) (sym nodes_are) (first_in (CAP - f.nodes, number) (heap_items old.order)))

    old_in : (x : ℕ × ℕ) → Contains (heap_items old.order) x → Contains (heap_items new.order) x
    old_in x at = Contains-permutation _ _ x pushed (later_in (CAP - f.nodes, number) x (heap_items old.order) at)

    in_cases : (x : ℕ × ℕ) → Contains (heap_items new.order) x → ((CAP - f.nodes, number) ≡ x) ⊎ Contains (heap_items old.order) x
    in_cases x at = front_or (heap_items old.order) (Contains-permutation _ _ x (IsPermutation-sym _ _ pushed) at)
      where
        front_or : (xs : List (ℕ × ℕ)) → Contains ((CAP - f.nodes, number) ∷ xs) x → ((CAP - f.nodes, number) ≡ x) ⊎ Contains xs x
        front_or xs (zero, low, same) = inl same
        front_or xs (suc k, low, same) = inr (k, omega arith, same)

    module _ (last : number ≡ length old.best.items) (keys : new.sets.keys ≡ old.sets.keys ++ f.row ∷ []) (best : new.best.items ≡ old.best.items ++ Some class ∷ []) where
      long : length new.best.items ≡ length old.best.items + 1
      long = ap length best ∙ length_push old.best.items (Some class)

      best_old : (i : ℕ) → i < length old.best.items → get_or new.best.items i None ≡ get_or old.best.items i None
      best_old i low = ap (λ b. get_or b i None) best ∙ old_at old.best.items (Some class) None i low

      best_new : (i : ℕ) → i ≡ length old.best.items → get_or new.best.items i None ≡ Some class
      best_new i e = ap (λ b. get_or b i None) best ∙ new_at old.best.items (Some class) None i e

      keys_old : (i : ℕ) → i < length old.best.items → get_or new.sets.keys i [] ≡ get_or old.sets.keys i []
      keys_old i low = ap (λ k. get_or k i []) keys ∙ old_at old.sets.keys f.row [] i (omega (arith, low, h.many))

      where_is : (i : ℕ) → i < length new.best.items → (i < length old.best.items) ⊎ (i ≡ number)
      where_is i low = elim (cases_lt i (length old.best.items)) [ inl below ↦ inl below | inr past ↦ inr (omega (arith, past, low, long, last)) ]

      which : (i : ℕ) (c : Class V) → IsPending new i c → IsPending old i c ⊎ ((i ≡ number) × (class ≡ c))
      which i c p = elim (where_is i p.0) [
        | inl below ↦ inl (below, sym (best_old i below) ∙ p.1)
        | inr here ↦ inr (here, some_is class c (sym (best_new i (here ∙ last)) ∙ p.1))
      ]

      pub offered_new : IsOffered label old new f
      offered_new = record {
        met = (number, omega (arith, long, last), row_at, λ c e. omega (arith, ap (λ z. z.nodes) (some_is class c (sym (best_new number last) ∙ e)), nodes_are));
        better = λ q n m. (let (i, l, at, less) = m in (i, omega (arith, l, long), keys_old i l ∙ at, λ c e. less c (sym (best_old i l) ∙ e)));
        candidates = λ i c p. elim (which i c p) [ inl before ↦ inl (i, before) | inr here ↦ inr (ap (found_of label) (sym here.1) ∙ is) ];
        settled = λ q. (
          (λ s. (let (i, l, at, e) = s in elim (where_is i l) [
            | inl below ↦ (i, below, sym (keys_old i below) ∙ at, sym (best_old i below) ∙ e)
            | inr here ↦ absurd (none_some (sym e ∙ best_new i (here ∙ last)))
          ])),
          (λ s. (let (i, l, at, e) = s in (i, omega (arith, l, long), keys_old i l ∙ at, best_old i l ∙ e))),
        );
        count = ap count_none best ∙ count_push old.best.items class;
      }
        where
          none_some : None ≡ Some class → ⊥
          none_some e = cc

      pub kept_new : ¬ Contains old.sets.keys f.row → AreKept new
      kept_new fresh = record {
        many = ap length keys ∙ length_push old.sets.keys f.row ∙ ap (λ n. n + 1) h.many ∙ sym long;
        apart = subst (λ k. (i m : ℕ) → i < length k → m < length k → get_or k i [] ≡ get_or k m [] → i ≡ m) (sym keys) (apart_push old.sets.keys f.row h.apart fresh);
        rows = λ i c p. elim (which i c p) [
          | inl before ↦ (let (r, n) = h.rows i c before in (r ∙ sym (keys_old i before.0), n))
          | inr here ↦ (sym (ap (λ z. z.row) here.1) ∙ row_is ∙ ap (λ n. get_or new.sets.keys n []) (sym here.0), omega (arith, ap (λ z. z.nodes) here.1, nodes_are, capped))
        ];
        queued = λ i c p. elim (which i c p) [
          | inl before ↦ old_in (CAP - c.nodes, i) (h.queued i c before)
          | inr here ↦ subst (λ z. Contains (heap_items new.order) (CAP - z.nodes, i)) here.1 (subst (λ n. Contains (heap_items new.order) (CAP - class.nodes, n)) (sym here.0) room_in)
        ];
        within = λ x at. elim (in_cases x at) [ inl e ↦ (let n : number ≡ x.1 = ap (λ z. z.1) e in omega (arith, n, long, last)) | inr before ↦ omega (arith, h.within x before, long) ];
        ordered = heap h.ordered;
      }

    module _ (low : number < length old.best.items) (before : Class V) (had : get_or old.best.items number None ≡ Some before) (less : f.nodes < before.nodes) (keys : new.sets.keys ≡ old.sets.keys) (best : new.best.items ≡ set old.best.items number (Some class)) where
      long_too : length new.best.items ≡ length old.best.items
      long_too = ap length best ∙ length-set old.best.items number (Some class)

      best_other : (i : ℕ) → ¬ (i ≡ number) → get_or new.best.items i None ≡ get_or old.best.items i None
      best_other i other = ap (λ b. get_or b i None) best ∙ get_or-set_other old.best.items number i (Some class) None other

      best_here : (i : ℕ) → i ≡ number → get_or new.best.items i None ≡ Some class
      best_here i e = ap (λ b. get_or b i None) best ∙ ap (λ n. get_or (set old.best.items number (Some class)) n None) e ∙ get_or-set_same old.best.items number (Some class) None low

      keys_at : (i : ℕ) → get_or new.sets.keys i [] ≡ get_or old.sets.keys i []
      keys_at i = ap (λ k. get_or k i []) keys

      which_too : (i : ℕ) (c : Class V) → IsPending new i c → IsPending old i c ⊎ ((i ≡ number) × (class ≡ c))
      which_too i c p = elim (cases_eq i number) [
        | inl here ↦ inr (here, some_is class c (sym (best_here i here) ∙ p.1))
        | inr other ↦ inl (omega (arith, p.0, long_too), sym (best_other i other) ∙ p.1)
      ]

      settled_other : (i : ℕ) → get_or old.best.items i None ≡ None → i ≡ number → ⊥
      settled_other i e here = none_some (sym e ∙ ap (λ n. get_or old.best.items n None) here ∙ had)
        where
          none_some : None ≡ Some before → ⊥
          none_some e = cc

      settled_here : (i : ℕ) → get_or new.best.items i None ≡ None → i ≡ number → ⊥
      settled_here i e here = none_some (sym e ∙ best_here i here)
        where
          none_some : None ≡ Some class → ⊥
          none_some e = cc

      pub offered_less : IsOffered label old new f
      offered_less = record {
        met = (number, omega (arith, long_too, low), row_at, λ c e. omega (arith, ap (λ z. z.nodes) (some_is class c (sym (best_here number refl) ∙ e)), nodes_are));
        better = λ q n m. (let (i, l, at, most) = m in (
          i,
          omega (arith, l, long_too),
          keys_at i ∙ at,
          λ c e. elim (cases_eq i number) [
            | inl here ↦ omega (arith, most before (ap (λ k. get_or old.best.items k None) here ∙ had), ap (λ z. z.nodes) (some_is class c (sym (best_here i here) ∙ e)), nodes_are, less)
            | inr other ↦ most c (sym (best_other i other) ∙ e)
          ],
        ));
        candidates = λ i c p. elim (which_too i c p) [ inl earlier ↦ inl (i, earlier) | inr here ↦ inr (ap (found_of label) (sym here.1) ∙ is) ];
        settled = λ q. (
          (λ s. (let (i, l, at, e) = s in (i, omega (arith, l, long_too), sym (keys_at i) ∙ at, sym (best_other i (settled_here i e)) ∙ e))),
          (λ s. (let (i, l, at, e) = s in (i, omega (arith, l, long_too), keys_at i ∙ at, best_other i (settled_other i e) ∙ e))),
        );
        count = ap count_none best ∙ count_set old.best.items number before class low had;
      }

      pub kept_less : AreKept new
      kept_less = record {
        many = ap length keys ∙ h.many ∙ sym long_too;
        apart = subst (λ k. (i m : ℕ) → i < length k → m < length k → get_or k i [] ≡ get_or k m [] → i ≡ m) (sym keys) h.apart;
        rows = λ i c p. elim (which_too i c p) [
          | inl earlier ↦ (let (r, n) = h.rows i c earlier in (r ∙ sym (keys_at i), n))
          | inr here ↦ (sym (ap (λ z. z.row) here.1) ∙ row_is ∙ ap (λ n. get_or new.sets.keys n []) (sym here.0), omega (arith, ap (λ z. z.nodes) here.1, nodes_are, capped))
        ];
        queued = λ i c p. elim (which_too i c p) [
          | inl earlier ↦ old_in (CAP - c.nodes, i) (h.queued i c earlier)
          | inr here ↦ subst (λ z. Contains (heap_items new.order) (CAP - z.nodes, i)) here.1 (subst (λ n. Contains (heap_items new.order) (CAP - class.nodes, n)) (sym here.0) room_in)
        ];
        within = λ x at. elim (in_cases x at) [ inl e ↦ (let n : number ≡ x.1 = ap (λ z. z.1) e in omega (arith, n, long_too, low)) | inr earlier ↦ omega (arith, h.within x earlier, long_too) ];
        ordered = heap h.ordered;
      }
