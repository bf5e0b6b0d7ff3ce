-- Candidates that are taken out of the order.
use Rattle.std.proofs.Common.{ℕ, zero, suc, ◌≡◌, ◌<◌, ◌≤◌, ◌-◌, ◌⊎◌, inl, inr, true, false, true≢false, Option, None, Some, List, [], ◌∷◌, get_or, set, length, Contains, refl, sym, ap, subst, ◌∙◌, arith}
use Rattle.std.specs.Prelude.{IsPermutation}
use Rattle.std.specs.BinaryHeap.{heap_items, PopsGreatest}
use Rattle.std.specs.Ordering.{nat_cmp, ordering_then}
use Rattle.std.proofs.lemmas.Bool.{cases_eq}
use Rattle.std.proofs.lemmas.List.{length-set, get_or-set_same, get_or-set_other}
use Rattle.std.proofs.lemmas.List.Elements.{All-contains}
use Rattle.std.proofs.lemmas.List.Sorted.{IsPermutation-sym, Contains-permutation, first_le_from_greatest}
use Rattle.sta_classes.specs.Pending.{count_none, leaves, IsPending, AreKept, IsTaken}
use Rattle.sta_classes.specs.declared.class.Class.{Class}
use Rattle.sta_classes.specs.declared.class.TheConstants.{CAP}
use Rattle.sta_classes.specs.declared.pending.Pending.{Pending}
use Rattle.sta_theory.proofs.Lists.{later_in}
use Rattle.sta_classes.proofs.Offers.{count_clear, some_is, leaving, leaves_room}

front_or : {X : Type 0} (x y : X) (xs : List X) → Contains (x ∷ xs) y → (x ≡ y) ⊎ Contains xs y
front_or x y xs (zero, low, same) = inl same
front_or x y xs (suc k, low, same) = inr (k, omega arith, same)

none_some : {X : Type 0} (x : X) → None ≡ Some x → ⊥
none_some x e = cc

-- the first of an order is taken out of it
module _ {V : Type 0} (old new : Pending V) (h : AreKept old) (room number : ℕ) (popped : IsPermutation (heap_items old.order) ((room, number) ∷ heap_items new.order)) (greatest : PopsGreatest (λ x y. ordering_then (nat_cmp x.0 y.0) (nat_cmp x.1 y.1)) (heap_items old.order) (room, number) (heap_items new.order)) (sets : new.sets ≡ old.sets) where
  first_in_order : Contains (heap_items old.order) (room, number)
  first_in_order = Contains-permutation _ _ (room, number) (IsPermutation-sym _ _ popped) (0, omega arith, refl)

  left_in : (x : ℕ × ℕ) → Contains (heap_items old.order) x → ¬ ((room, number) ≡ x) → Contains (heap_items new.order) x
  left_in x at other = elim (front_or (room, number) x (heap_items new.order) (Contains-permutation _ _ x popped at)) [ inl same ↦ absurd (other same) | inr there ↦ there ]

  was_in : (x : ℕ × ℕ) → Contains (heap_items new.order) x → Contains (heap_items old.order) x
  was_in x at = Contains-permutation _ _ x (IsPermutation-sym _ _ popped) (later_in (room, number) x (heap_items new.order) at)

  pub number_low : number < length old.best.items
  number_low = h.within (room, number) first_in_order

  -- it is no candidate's any more
  pub kept_stale : new.best ≡ old.best → (candidate : Option (Class V)) → get_or old.best.items number None ≡ candidate → leaves candidate room ≡ false → AreKept new
  kept_stale best candidate at stale = record {
    many = ap (λ s. length s.keys) sets ∙ h.many ∙ ap (λ b. length b.items) (sym best);
    apart = subst (λ s. (i m : ℕ) → i < length s.keys → m < length s.keys → get_or s.keys i [] ≡ get_or s.keys m [] → i ≡ m) (sym sets) h.apart;
    rows = λ i c p. (let (r, n) = h.rows i c (back i c p) in (r ∙ ap (λ s. get_or s.keys i []) (sym sets), n));
    queued = λ i c p. left_in (CAP - c.nodes, i) (h.queued i c (back i c p)) (λ same. apart i c (back i c p) same);
    within = λ x there. subst (λ b. x.1 < length b.items) (sym best) (h.within x (was_in x there));
    ordered = (greatest h.ordered).0;
  }
    where
      back : (i : ℕ) (c : Class V) → IsPending new i c → IsPending old i c
      back i c p = subst (λ b. (i < length b.items) × (get_or b.items i None ≡ Some c)) best p

      apart : (i : ℕ) (c : Class V) → IsPending old i c → ◌≡◌ {A = ℕ × ℕ} (room, number) (CAP - c.nodes, i) → ⊥
      apart i c p same =
          let e : candidate ≡ Some c = sym at ∙ ap (λ x. get_or old.best.items x.1 None) same ∙ p.1 in
          true≢false (sym (leaves_room c (h.rows i c p).1) ∙ ap (leaves (Some c)) (sym (ap (λ x. x.0) same)) ∙ ap (λ o. leaves o room) (sym e) ∙ stale)

  module _ (best : new.best.items ≡ set old.best.items number None) (candidate : Option (Class V)) (at : get_or old.best.items number None ≡ candidate) (current : leaves candidate room ≡ true) where
    other_at : (i : ℕ) → ¬ (i ≡ number) → get_or new.best.items i None ≡ get_or old.best.items i None
    other_at i other = ap (λ b. get_or b i None) best ∙ get_or-set_other old.best.items number i None None other

    here_at : (i : ℕ) → i ≡ number → get_or new.best.items i None ≡ None
    here_at i e = ap (λ b. get_or b i None) best ∙ ap (λ n. get_or (set old.best.items number None) n None) e ∙ get_or-set_same old.best.items number None None number_low

    long : length new.best.items ≡ length old.best.items
    long = ap length best ∙ length-set old.best.items number None

    pending_old : (i : ℕ) (d : Class V) → IsPending new i d → ¬ (i ≡ number) × IsPending old i d
    pending_old i d p = elim (cases_eq i number) [
      | inl same ↦ absurd (none_some d (sym (here_at i same) ∙ p.1))
      | inr other ↦ (other, (omega (arith, p.0, long), sym (other_at i other) ∙ p.1))
    ]

    pub kept_taken : AreKept new
    kept_taken = record {
      many = ap (λ s. length s.keys) sets ∙ h.many ∙ sym long;
      apart = subst (λ s. (i m : ℕ) → i < length s.keys → m < length s.keys → get_or s.keys i [] ≡ get_or s.keys m [] → i ≡ m) (sym sets) h.apart;
      rows = λ i c p. (let (r, n) = h.rows i c (pending_old i c p).1 in (r ∙ ap (λ s. get_or s.keys i []) (sym sets), n));
      queued = λ i c p. left_in (CAP - c.nodes, i) (h.queued i c (pending_old i c p).1) (λ same. (pending_old i c p).0 (sym (ap (λ x. x.1) same)));
      within = λ x there. omega (arith, h.within x (was_in x there), long);
      ordered = (greatest h.ordered).0;
    }

    pub taken : (c : Class V) → candidate ≡ Some c → IsTaken old new c
    taken c is = record {
      sets_are = sets;
      member = (number, (number_low, at ∙ is));
      least = λ i d p. least d i p;
      better = λ q n m. (let (i, low, k, most) = m in (
        i,
        omega (arith, low, long),
        ap (λ s. get_or s.keys i []) sets ∙ k,
        λ d e. elim (cases_eq i number) [
          | inl same ↦ absurd (none_some d (sym (here_at i same) ∙ e))
          | inr other ↦ most d (sym (other_at i other) ∙ e)
        ],
      ));
      candidates = λ i d p. (pending_old i d p).1;
      settled = λ q. (
        (λ s. (let (i, low, k, none) = s in elim (cases_eq i number) [
          | inl same ↦ inr ((h.rows number c (number_low, at ∙ is)).0 ∙ ap (λ n. get_or old.sets.keys n []) (sym same) ∙ ap (λ z. get_or z.keys i []) (sym sets) ∙ k)
          | inr other ↦ inl (i, omega (arith, low, long), ap (λ z. get_or z.keys i []) (sym sets) ∙ k, sym (other_at i other) ∙ none)
        ])),
        (λ s. elim s [
          | inl before ↦ (let (i, low, k, none) = before in (i, omega (arith, low, long), ap (λ z. get_or z.keys i []) sets ∙ k, other_at i (λ same. none_some c (sym none ∙ ap (λ n. get_or old.best.items n None) same ∙ at ∙ is)) ∙ none))
          | inr e ↦ (number, omega (arith, number_low, long), ap (λ z. get_or z.keys number []) sets ∙ sym (h.rows number c (number_low, at ∙ is)).0 ∙ e, here_at number refl)
        ]),
      );
      count = ap count_none best ∙ count_clear old.best.items number c number_low (at ∙ is);
    }
      where
        least : (d : Class V) (i : ℕ) → IsPending old i d → c.nodes ≤ d.nodes
        least d i p =
            let (b, e, capped, left) = leaving candidate room current in
            let same : b ≡ c = some_is b c (sym e ∙ is) in
            let top : CAP - d.nodes ≤ room = All-contains (λ y. y.0 ≤ room) (heap_items old.order) (CAP - d.nodes, i) (first_le_from_greatest nat_cmp (room, number) (heap_items old.order) (greatest h.ordered).1) (h.queued i d p) in
            omega (arith, top, left, capped, (h.rows i d p).1, ap (λ z. z.nodes) same)
