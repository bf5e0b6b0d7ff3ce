-- Calls on children by the terms of the states that are asked.
use Rattle.std.proofs.Common.{ℕ, zero, suc, ◌≡◌, ◌+◌, ◌<◌, ◌≤◌, ◌==◌, ◌⊎◌, inl, inr, Bool, true, false, cond, List, [], ◌∷◌, ◌++◌, map, length, length-append, get_or, drop, refl, sym, ap, ap₂, subst, ◌∙◌, ◌↔◌, arith}
use Rattle.std.proofs.lemmas.Bool.{and_parts}
use Rattle.std.specs.Prelude.{ℤ, Contains, IfErr, IsErrAnd}
use Rattle.std.specs.declared.result.Result.{Result}
use Rattle.std.proofs.lemmas.Result.{err_from_is_err_and}
use Rattle.std.specs.List.{All}
use Rattle.std.proofs.lemmas.List.Elements.{All-head, All-tail}
use Rattle.std.specs.Cmp.{IsTotalOrder}
use Rattle.std.specs.declared.cmp.Ordering.{Ordering}
use Rattle.std.specs.declared.cmp.Ordering.TheVariants.{Equal}
use Rattle.model_tree.specs.Label.{Label}
use Rattle.model_tree.specs.Tree.{Tree, node, trees_of, children_of, label_of, relabel, relabel_all, EveryLabel, EveryLabelOfAll}
use Rattle.model_sta.specs.Automaton.{rule_applies}
use Rattle.model_sttr.specs.Terms.{Term, on, build, Parts, no_parts, part, with_maps, parts_with_maps, Occurs, OccursIn}
use Rattle.model_sttr.specs.Transducer.{Head, identity, run, Sttr, out_rules, Gives}
use Rattle.model_sttr.specs.Cuts.{Cut}
use Rattle.apply_laws.specs.Lists.{sum_of, OneOf}
use Rattle.apply_laws.specs.Listing.{all_kept, each_kept}
use Rattle.apply_laws.specs.Found.{Found, too_much, listed}
use Rattle.apply_laws.specs.Reached.{terms_of, Leads, LeadsAt}
use Rattle.apply_laws.specs.Terms.{AreTermsFound, IsCallFound, IsCallFoundAt}
use Rattle.apply_laws.proofs.Calls.{contained_one_of, applies_in, of_state}
use Rattle.apply_laws.proofs.Leads.{leads_itself, leads_on}
use Rattle.apply_laws.proofs.Loads.{too_much_is}
use Rattle.sttr_apply.specs.Calls.{calls, calls_in, calls_of, calls_each, used, asks_in, uses_in}
use Rattle.sttr_apply.specs.Labels.{keeps, Outside}
use Rattle.sta_marks.specs.Nodes.{nodes_of_all}
use Rattle.sttr_apply.specs.Plain.{load_of, out_cut}
use Rattle.sttr_apply.specs.Solve.{IsStop, IsStopBelow}
use Rattle.sttr_apply.specs.Tables.{AreFoundAt, HasUses}
use Rattle.sttr_apply.specs.declared.calls.Ask.{Ask}
use Rattle.sttr_apply.specs.declared.calls.Entry.{Entry}
use Rattle.sttr_apply.specs.declared.outs.Load.{Load}
use Rattle.sttr_apply.specs.declared.stop.ApplyStop.{ApplyStop}
use Rattle.sttr_apply.specs.declared.stop.ApplyStop.TheVariants as stop
use Rattle.sttr_apply.proofs.Used.{same_number, number_of_test}

module _ {X : Type 0} (h : X → ℕ) where
  some_of_sum : (xs : List X) → 0 < sum_of h xs → OneOf (λ x. 0 < h x) xs
  some_of_sum [] l = absurd (omega (arith, l))
  some_of_sum (x ∷ xs) l = split (some_of_sum xs) (h x) refl
    where
      split : (0 < sum_of h xs → OneOf (λ x. 0 < h x) xs) → (n : ℕ) → h x ≡ n → OneOf (λ x. 0 < h x) (x ∷ xs)
      split later zero e = inr (later (omega (arith, l, e)))
      split later (suc n) e = inl (omega (arith, e))

-- a state that is asked, where each is asked at least once, is to be used
pub some_used : (asks : List Ask) → All (λ a. 0 < a.uses) asks → (a : Ask) → Contains asks a → 0 < used (asks_in asks) a.state
some_used [] h a (k, l, e) = absurd (omega (arith, l))
some_used (b ∷ asks) h a (zero, l, e) =
    let head = All-head (λ a. 0 < a.uses) b asks h in
    subst (λ n. 0 < n) (sym (ap (λ t. cond t b.uses (used (asks_in asks) a.state)) (same_number b.state a.state (ap (λ x. x.state) e)))) head
some_used (b ∷ asks) h a (suc k, l, e) = split (b.state == a.state) (some_used asks (All-tail (λ a. 0 < a.uses) b asks h) a (k, omega (arith, l), e))
  where
    split : (t : Bool) → 0 < used (asks_in asks) a.state → 0 < cond t b.uses (used (asks_in asks) a.state)
    split true later = All-head (λ a. 0 < a.uses) b asks h
    split false later = later

module _ {M : Type 0} (q k : ℕ) where
  mutual
    occurs : (p : Term Head M) → 0 < calls q k p → Occurs (run q) k p
    occurs (on identity j) l = absurd (omega (arith, l))
    occurs (on (run p) j) l = split (j == k) (p == q) refl refl l
      where
        split : (a b : Bool) → (j == k) ≡ a → (p == q) ≡ b → 0 < cond a (cond b 1 0) 0 → (run p ≡ run q) × (j ≡ k)
        split true true e g l = (ap run (number_of_test p q g), number_of_test j k e)
        split true false e g l = absurd (omega (arith, l))
        split false b e g l = absurd (omega (arith, l))
    occurs (build c m ps) l = occurs_in ps l

    occurs_in : (ps : Parts Head M) → 0 < calls_in q k ps → OccursIn (run q) k ps
    occurs_in no_parts l = absurd (omega (arith, l))
    occurs_in (part p ps) l = split (occurs p) (occurs_in ps) (calls q k p) refl
      where
        split : (0 < calls q k p → Occurs (run q) k p) → (0 < calls_in q k ps → OccursIn (run q) k ps) → (n : ℕ) → calls q k p ≡ n → Occurs (run q) k p ⊎ OccursIn (run q) k ps
        split first later zero e = inr (later (omega (arith, l, e)))
        split first later (suc n) e = inl (first (omega (arith, e)))

module _ {M N : Type 0} (make : M → N) (q k : ℕ) where
  mutual
    calls_with : (p : Term Head M) → calls q k (with_maps make p) ≡ calls q k p
    calls_with (on identity j) = refl
    calls_with (on (run p) j) = refl
    calls_with (build c m ps) = calls_in_with ps

    calls_in_with : (ps : Parts Head M) → calls_in q k (parts_with_maps make ps) ≡ calls_in q k ps
    calls_in_with no_parts = refl
    calls_in_with (part p ps) = ap₂ (λ a b. a + b) (calls_with p) (calls_in_with ps)

  module _ {X : Type 0} (of : X → Term Head M) where
    calls_of_with : (xs : List X) → calls_of q k (map (λ x. with_maps make (of x)) xs) ≡ calls_of q k (map of xs)
    calls_of_with [] = refl
    calls_of_with (x ∷ xs) = ap₂ (λ a b. a + b) (calls_with (of x)) (calls_of_with xs)

    pub calls_each_with : {W : Type 0} (items : W → List X) (ws : List W) → calls_each q k (map (λ w. map (λ x. with_maps make (of x)) (items w)) ws) ≡ calls_each q k (map (λ w. map of (items w)) ws)
    calls_each_with items [] = refl
    calls_each_with items (w ∷ ws) = ap₂ (λ a b. a + b) (calls_of_with (items w)) (calls_each_with items ws)

module _ (f : Sttr Label) (t : Tree Label) where
  one_asked : (q k : ℕ) (asks : List Ask) → 0 < calls_each q k (map (λ a. terms_of f.looks t (out_rules f a.state)) asks) → OneOf (λ a. 0 < calls_of q k (terms_of f.looks t (out_rules f a.state))) asks
  one_asked q k [] l = absurd (omega (arith, l))
  one_asked q k (a ∷ asks) l = split (one_asked q k asks) (calls_of q k (terms_of f.looks t (out_rules f a.state))) refl
    where
      split : (0 < calls_each q k (map (λ a. terms_of f.looks t (out_rules f a.state)) asks) → OneOf (λ a. 0 < calls_of q k (terms_of f.looks t (out_rules f a.state))) asks) → (n : ℕ) → calls_of q k (terms_of f.looks t (out_rules f a.state)) ≡ n → OneOf (λ a. 0 < calls_of q k (terms_of f.looks t (out_rules f a.state))) (a ∷ asks)
      split later zero e = inr (later (omega (arith, l, e)))
      split later (suc n) e = inl (omega (arith, e))

-- what stops on a child stops the calls of the states that are asked
pub stop_above : (f : Sttr Label) (t : Tree Label) (asks : List Ask) (n : ℕ → ℕ → ℕ) → All (λ a. 0 < a.uses) asks → ((q k : ℕ) → n q k ≡ calls_each q k (map (λ a. terms_of f.looks t (out_rules f a.state)) asks))
    → (s : ApplyStop) → IsStopBelow f n (children_of t) s → IsStop f (used (asks_in asks)) t s
stop_above f t asks n some are (stop.Range x) h = absurd h
stop_above f t asks n some are stop.Memory h = tt
stop_above f (node c l ts) asks n some are (stop.Load a) (q, k, u, (r, s, leads, much)) =
    let asked = contained_one_of (λ a. 0 < calls_of q k (terms_of f.looks (node c l ts) (out_rules f a.state))) asks (one_asked f (node c l ts) q k asks (subst (λ n. 0 < n) (are q k) u)) in
    let rule = contained_one_of (λ r. (rule_applies f.looks (node c l ts) r.rule ≡ true) × (0 < calls q k r.term)) (out_rules f asked.0.state) (applies_in f.looks (node c l ts) (λ p. 0 < calls q k p) (out_rules f asked.0.state) (some_of_sum (calls q k) (terms_of f.looks (node c l ts) (out_rules f asked.0.state)) asked.2)) in
    (asked.0.state, some_used asks some asked.0 asked.1, (r, s, leads_on f asked.0.state c l ts rule.0 rule.1 rule.2.0 q k (occurs q k rule.0.term rule.2.1) r s leads, much))

module _ {V : Type 0} (label : V → Label) (f : Sttr Label) where
  leads_there : (ts : List (Tree V)) (k : ℕ) (t : Tree V) (q r : ℕ) (s : Tree Label) → k < length ts → t ≡ get_or ts k t → Leads f q (relabel label t) r s → LeadsAt f q k (relabel_all label (trees_of ts)) r s
  leads_there [] k t q r s l e h = absurd (omega (arith, l))
  leads_there (x ∷ ts) zero t q r s l e h = subst (λ t. Leads f q (relabel label t) r s) e h
  leads_there (x ∷ ts) (suc k) t q r s l e h = leads_there ts k t q r s (omega arith) e h

  -- what stops on a child
  pub stop_at : (ts : List (Tree V)) (k : ℕ) (t : Tree V) (m : ℕ → ℕ) (n : ℕ → ℕ → ℕ) → k < length ts → t ≡ get_or ts k t → ((q : ℕ) → m q ≡ n q k) → (s : ApplyStop) → IsStop f m (relabel label t) s → IsStopBelow f n (relabel_all label (trees_of ts)) s
  stop_at ts k t m n l e are (stop.Range x) h = absurd h
  stop_at ts k t m n l e are stop.Memory h = tt
  stop_at ts k t m n l e are (stop.Load a) (q, u, (r, s, leads, much)) = (q, k, subst (λ n. 0 < n) (are q) u, (r, s, leads_there ts k t q r s l e leads, much))

module _ {V : Type 0} (label : V → Label) (order : V → V → Ordering) (total : IsTotalOrder order) (same : (v w : V) → (order v w ≡ Equal) ↔ (label v ≡ label w)) (f : Sttr Label) where
  pub state_found : (t : Tree V) (q : ℕ) (ps : List (Term Head (Label → Label))) (found : Found (Cut V) ℤ) → ps ≡ terms_of f.looks (relabel label t) (out_rules f q) → AreTermsFound label order keeps Outside f (children_of t) (label (label_of t)) ps found → IsCallFound label order keeps Outside f q t found
  state_found (node c v ts) q ps found e h = of_state label order keeps Outside total same f q c v ts found (subst (λ ps. AreTermsFound label order keeps Outside f ts (label v) ps found) e h)

  -- too much of an asked state
  pub stop_here : (t : Tree V) (asks : List Ask) (a : Ask) (ps : List (Term Head (Label → Label))) (load : Load) → All (λ a. 0 < a.uses) asks → Contains asks a → ps ≡ terms_of f.looks (relabel label t) (out_rules f a.state) → AreTermsFound {N = ℤ} label order keeps Outside f (children_of t) (label (label_of t)) ps (too_much (load_of load))
      → IsStop f (used (asks_in asks)) (relabel label t) (stop.Load load)
  stop_here t asks a ps load some has e h = (a.state, some_used asks some a has, (a.state, relabel label t, leads_itself f a.state (relabel label t), too_much_is (Gives f (run a.state)) (relabel label t) (load_of load) (state_found t a.state ps (too_much (load_of load)) e h)))

module _ {V : Type 0} (label : V → Label) (order : V → V → Ordering) (f : Sttr Label) (q : ℕ) where
  -- a call on a child
  pub found_at : (ts : List (Tree V)) (k : ℕ) (t : Tree V) (found : Found (Cut V) ℤ) → k < length ts → t ≡ get_or ts k t → IsCallFound label order keeps Outside f q t found → IsCallFoundAt label order keeps Outside f q k (trees_of ts) found
  found_at [] k t found l e h = absurd (omega (arith, l))
  found_at (x ∷ ts) zero t found l e h = subst (λ t. IsCallFound label order keeps Outside f q t found) e h
  found_at (x ∷ ts) (suc k) t found l e h = found_at ts k t found (omega arith) e h

module _ {V : Type 0} (label : V → Label) where
  pub kept_child : (ts : List (Tree V)) (k : ℕ) (t : Tree V) → k < length ts → t ≡ get_or ts k t → each_kept keeps (relabel_all label (trees_of ts)) ≡ true → all_kept keeps (relabel label t) ≡ true
  kept_child [] k t l e h = absurd (omega (arith, l))
  kept_child (x ∷ ts) zero t l e h = subst (λ t. all_kept keeps (relabel label t) ≡ true) (sym e) (and_parts (all_kept keeps (relabel label x)) (each_kept keeps (relabel_all label (trees_of ts))) h).0
  kept_child (x ∷ ts) (suc k) t l e h = kept_child ts k t (omega arith) e (and_parts (all_kept keeps (relabel label x)) (each_kept keeps (relabel_all label (trees_of ts))) h).1

  pub kept_children : (t : Tree V) → all_kept keeps (relabel label t) ≡ true → each_kept keeps (relabel_all label (children_of t)) ≡ true
  kept_children (node c v ts) h = (and_parts (keeps (label v)) (each_kept keeps (relabel_all label ts)) h).1

module _ {V : Type 0} (P : V → Type 0) where
  pub every_child : (ts : List (Tree V)) (k : ℕ) (t : Tree V) → k < length ts → t ≡ get_or ts k t → EveryLabelOfAll P (trees_of ts) → EveryLabel P t
  every_child [] k t l e h = absurd (omega (arith, l))
  every_child (x ∷ ts) zero t l e h = subst (EveryLabel P) (sym e) h.0
  every_child (x ∷ ts) (suc k) t l e h = every_child ts k t (omega arith) e h.1

  pub every_root : (t : Tree V) → EveryLabel P t → P (label_of t)
  every_root (node c v ts) h = h.0

  pub every_below : (t : Tree V) → EveryLabel P t → EveryLabelOfAll P (children_of t)
  every_below (node c v ts) h = h.1

pub same_children : {V : Type 0} (label : V → Label) (t : Tree V) → children_of (relabel label t) ≡ relabel_all label (children_of t)
same_children label (node c v ts) = refl

module _ {X Y Z : Type 0} (f : X → Z) (g : Y → Z) where
  pub same_at : (xs : List X) (ys : List Y) (i : ℕ) (x : X) (y : Y) → map f xs ≡ map g ys → i < length ys → x ≡ get_or xs i x → y ≡ get_or ys i y → f x ≡ g y
  same_at xs [] i x y e l a b = absurd (omega (arith, l))
  same_at [] (v ∷ ys) i x y e l a b = let n : 0 ≡ suc (length (map g ys)) = ap length e in absurd (omega (arith, n))
  same_at (u ∷ xs) (v ∷ ys) zero x y e l a b = ap f a ∙ (ap (λ zs. get_or zs 0 (f u)) e ∙ ap g (sym b))
  same_at (u ∷ xs) (v ∷ ys) (suc i) x y e l a b = same_at xs ys i x y (ap (drop 1) e) (omega arith) a b

-- ---- tables that grow

module _ {X : Type 0} where
  get_push : (xs : List (List X)) (ys : List X) (k : ℕ) → ((k < length xs) × (get_or (xs ++ ys ∷ []) k [] ≡ get_or xs k [])) ⊎ (((k ≡ length xs) × (get_or (xs ++ ys ∷ []) k [] ≡ ys)) ⊎ ((length xs < k) × (get_or (xs ++ ys ∷ []) k [] ≡ [])))
  get_push [] ys zero = inr (inl (refl, refl))
  get_push [] ys (suc k) = inr (inr (omega arith, refl))
  get_push (x ∷ xs) ys zero = inl (omega arith, refl)
  get_push (x ∷ xs) ys (suc k) = elim (get_push xs ys k) [
    | inl h ↦ inl (omega (arith, h.0), h.1)
    | inr h ↦ elim h [ inl a ↦ inr (inl (ap suc a.0, a.1)) | inr b ↦ inr (inr (omega (arith, b.0), b.1)) ]
  ]

  pub empty_list : (xs : List X) → length xs ≡ 0 → xs ≡ []
  empty_list [] e = refl
  empty_list (x ∷ xs) e = absurd (omega (arith, e))

  pub each_of : (P : X → Type 0) (xs : List X) → All P xs → (x : X) → Contains xs x → P x
  each_of P xs h x (k, l, e) = subst P e (h k x l)

  pub contains_none : (xs : List X) → xs ≡ [] → (x : X) → Contains xs x → ⊥
  contains_none xs e x (k, l, is) = let n = ap length e in omega (arith, l, n)

module _ {V : Type 0} (label : V → Label) (order : V → V → Ordering) (f : Sttr Label) (t : Tree V) where
  pub found_push : (old : List (List (Entry V))) (new : List (List (Entry V))) (es : List (Entry V)) (n : ℕ) → new ≡ old ++ es ∷ [] → n ≡ length old → AreFoundAt label order f t old
      → ((e : Entry V) → Contains es e → IsCallFoundAt label order keeps Outside f e.state n (children_of t) (listed (map out_cut e.listing.outs.items) e.listing.far)) → AreFoundAt label order f t new
  found_push old new es n is at h g = subst (AreFoundAt label order f t) (sym is) (λ k e c u. elim (get_push old es k) [
    | inl a ↦ h k e (subst (λ xs. Contains xs e) a.1 c) u
    | inr b ↦ elim b [
      | inl d ↦ subst (λ i. IsCallFoundAt label order keeps Outside f e.state i (children_of t) (listed (map out_cut e.listing.outs.items) e.listing.far)) (at ∙ sym d.0) (g e (subst (λ xs. Contains xs e) d.1 c))
      | inr d ↦ absurd (contains_none _ d.1 e c)
    ]
  ])

  pub has_push : (old : List (List (Entry V))) (new : List (List (Entry V))) (es : List (Entry V)) (n : ℕ) (m : ℕ → ℕ → ℕ) → new ≡ old ++ es ∷ [] → n ≡ length old → HasUses old m → ((q : ℕ) → m q n ≤ used (uses_in es) q) → HasUses new m
  has_push old new es n m is at h g = subst (λ xs. HasUses xs m) (sym is) (λ q k l. elim (get_push old es k) [
    | inl a ↦ let same = ap (λ xs. used (uses_in xs) q) a.1 in omega (arith, h q k a.0, same)
    | inr b ↦ elim b [
      | inl d ↦ let same = ap (λ xs. used (uses_in xs) q) d.1 in subst (λ i. m q i ≤ used (uses_in (get_or (old ++ es ∷ []) k [])) q) (at ∙ sym d.0) (omega (arith, g q, same))
      | inr d ↦ let long = length-append old (es ∷ []) in absurd (omega (arith, l, long, d.0))
    ]
  ])

module _ {V : Type 0} where
  pub children_few : (ts : List (Tree V)) → length ts ≤ length (nodes_of_all (trees_of ts))
  children_few [] = omega arith
  children_few (node c v us ∷ ts) = omega (arith, children_few ts, length-append (nodes_of_all us) (nodes_of_all (trees_of ts)))

pub err_exit : {X E : Type 0} (P : E → Type 0) (e : E) (r : Result X E) → IsErrAnd r (λ y. y ≡ e) → P e → IfErr r P
err_exit P e r is h = let p = err_from_is_err_and r is in subst (λ r. IfErr r P) (sym p.1) (subst P (sym p.2) h)
