-- Ways over the parts of a node, one after the other.
use Rattle.std.proofs.Common.{ℕ, zero, suc, ◌+◌, ◌<◌, ◌≤◌, ◌≡◌, ◌⊎◌, cond, inl, inr, Bool, true, false, List, [], ◌∷◌, ◌++◌, map, get_or, length, drop, Contains, Option, refl, sym, subst, ap, ◌∙◌, arith}
use Rattle.std.specs.Prelude.{⊤}
use Rattle.std.specs.Option.{option_map}
use Rattle.std.proofs.lemmas.List.{drop_all}
use Rattle.model_tree.specs.Label.{Label}
use Rattle.model_sttr.specs.Terms.{Term, build, Parts, no_parts, part, with_maps, parts_with_maps, StandFor}
use Rattle.model_sttr.specs.Transducer.{Head, identity, Sttr}
use Rattle.sttr_core.specs.Machine.{OutMachine, transducer_of}
use Rattle.sttr_theory.specs.Alike.{SameTriple}
use Rattle.sttr_theory.specs.Built.{kept}
use Rattle.sttr_theory.specs.Lists.{pairs, SameStates}
use Rattle.sttr_theory.specs.Triples.{Triple}
use Rattle.sttr_theory.specs.Ways.{WayOf, plain, joined, guarded, with_term, first_of, second_of, size, over_term, over_parts, free_ways, rest_ways, gives_ways, gives_at}
use Rattle.sttr_run.specs.Drafts.{AreAmong, IsFreer, IsAskedIn, only, no_terms, parts_of, list_of, all_say, AllStand, guards_of, terms_of, terms_at, AreProducts, AddsProducts, NeverHolds, SaysSame, SaysLess, Covers}
use Rattle.sttr_run.specs.Found.{used_by, CoversPicks, IsFree, IsGiven, IsAt, IsOver, AreOver, AreKept, AreWanted, AreMoreWanted, IsNodeOver, AreNodesOver}
use Rattle.sttr_run.specs.Leaves.{IsLeaf}
use Rattle.sttr_run.specs.Picks.{wanted_in, pick_guards, pick_term, wants_of}
use Rattle.sttr_run.specs.Sets.{Grown}
use Rattle.sttr_run.specs.declared.drafts.Draft.{Draft}
use Rattle.sttr_run.specs.declared.picks.Pick.{Pick}
use Rattle.sttr_theory.proofs.Members.{here, in_single, to_mapped, of_mapped, to_flat, of_flat}
use Rattle.sttr_run.proofs.Asking.{nothing_asked}
use Rattle.sttr_run.proofs.Covering.{same_both, less_both, covers_pairs, and_false, parts_stand}
use Rattle.sttr_run.proofs.LeafWays.{covers_plain}
use Rattle.sttr_run.proofs.Members.{nil_out, push_out, push_old, push_new}
use Rattle.sttr_theory.proofs.Once.{same_twice}

-- from place n on
abbrev pub shift : {X : Type 0} → ℕ → (ℕ → X) → ℕ → X
shift zero f = f
shift (suc n) f = λ j. shift n f (suc j)

shifted : {X : Type 0} (n : ℕ) (f : ℕ → X) (j : ℕ) → shift n f j ≡ f (j + n)
shifted zero f j = ap f (omega arith)
shifted (suc n) f j = shifted n f (suc j) ∙ ap f (omega arith)

pub shift_at : {X : Type 0} (n : ℕ) (f : ℕ → X) → shift n f 0 ≡ f n
shift_at n f = shifted n f 0 ∙ ap f (omega arith)

-- the states that are demanded, as a set
pub set_same : (all wanted : List ℕ) → Grown [] all (Contains wanted) → SameStates all wanted
set_same all wanted g = (λ s at. elim ((g s).0 at) [ inl none ↦ absurd (nil_out s none) | inr a ↦ a ], λ s at. (g s).1 (inr at))

module _ {A M : Type 0} (holds : A → Label → Bool) (make : M → Label → Label) (D : Label → Type 0) where
  module _ {X : Type 0} (terms : X → List (Term Triple (Label → Label))) (parts : List (Term Head M)) (second : OutMachine A M) (demands : List (List (List ℕ))) where
    -- what is found for what is wanted of one child
    pub covers_at : (i : ℕ) (all : List ℕ) → Grown [] all (Contains (wanted_in demands i)) → (pick : (ℕ → List ℕ) → List ℕ) → ((E : ℕ → List ℕ) → pick E ≡ E i) → (F : List ℕ → List (WayOf Label X)) (ys : List (Draft A M))
        → Covers holds make D terms (SameStates all) (AreAmong all) F ys → Covers holds make D terms (AreWanted holds make D second parts demands) (AreMoreWanted holds make D second parts demands) (λ E. F (pick E)) ys
    covers_at i all g pick is F ys c =
        let same = set_same all (wanted_in demands i) g in record {
          each = λ E w. c.each (pick E) (subst (SameStates all) (sym (is E)) (same_twice all (wanted_in demands i) (E i) same (w i)));
          all = λ E w. c.all (pick E) (subst (AreAmong all) (sym (is E)) (λ s at. w i s (same.0 s at)));
        }

  -- a list that is left as it is
  pub covers_skip : {I : Type 0} (Same More : I → Type 0) (ws : I → List (WayOf Label ⊤)) (ys : List (Draft A M)) → Covers holds make D no_terms Same More ws ys → Covers holds make D no_terms Same More (λ i. pairs (joined first_of) (plain tt ∷ []) (ws i)) ys
  covers_skip Same More ws ys c = record {
    each = λ i s y at. let (w, in_w, says) = c.each i s y at in
        (joined first_of (plain tt) w, to_flat (λ v. map (joined first_of v) (ws i)) (plain tt ∷ []) (plain tt) (joined first_of (plain tt) w) (here (plain tt) []) (to_mapped (joined first_of (plain tt)) (ws i) w in_w), record { guard = says.guard; asks = says.asks; asked_of = says.asked_of; same_terms = says.same_terms });
    all = λ i s z at.
        let (v, in_v, row) = of_flat (λ v. map (joined first_of v) (ws i)) (plain tt ∷ []) z at in
        let (w, in_w, is) = of_mapped (joined first_of v) (ws i) z row in
        let plain_is : plain tt ≡ v = in_single (plain tt) v in_v in
        subst (λ z. NeverHolds holds make D no_terms z ⊎ ((y : Draft A M) × Contains ys y × SaysLess holds make D no_terms y z)) (ap (λ v. joined first_of v w) plain_is ∙ is)
        (elim (c.all i s w in_w) [
          | inl never ↦ inl never
          | inr found ↦ inr (let (y, in_ys, less) = found in (y, in_ys, record { guard = less.guard; asks = less.asks; freer_terms = less.freer_terms }))
        ]);
  }

  module _ (eq : M → M → Bool) (same : (m n : M) (l : Label) → eq m n ≡ true → make m l ≡ make n l) (second : OutMachine A M) (parts : List (Term Head M)) (demands : List (List (List ℕ))) where
    abbrev T : Sttr Label
    T = transducer_of holds make second

    abbrev Wanted : (ℕ → List ℕ) → Type 0
    Wanted = AreWanted holds make D second parts demands

    abbrev More : (ℕ → List ℕ) → Type 0
    More = AreMoreWanted holds make D second parts demands

    abbrev meant : List (Term Head M) → List (Term Head (Label → Label))
    meant ps = map (with_maps make) ps

    -- ---- the parts that are not used

    module _ (t : Option (Term Head M)) where
      abbrev U : ℕ → Bool
      U = used_by (option_map (with_maps make) t)

      abbrev pub RestFrom : ℕ → List (Draft A M) → Type 0
      RestFrom i ys = Covers holds make D no_terms Wanted More (λ E. rest_ways T (shift i U) (parts_of (meant (drop i parts))) (shift i E)) ys

      pub rest_start : (i : ℕ) (ys : List (Draft A M)) → length parts ≤ i → IsLeaf 0 [] [] ys → RestFrom i ys
      rest_start i ys low leaf = subst (λ ps. Covers holds make D no_terms Wanted More (λ E. rest_ways T (shift i U) (parts_of (meant ps)) (shift i E)) ys) (sym (drop_all i parts low)) (covers_plain holds make D no_terms tt refl Wanted More ys leaf)

      abbrev one_rest : (i : ℕ) (p : Term Head M) (b : Bool) (E : ℕ → List ℕ) → List (WayOf Label ⊤)
      one_rest i p b E = pairs (joined first_of) (cond b (plain tt ∷ []) (free_ways T (with_maps make p) (shift i E 0))) (rest_ways T (shift (suc i) U) (parts_of (meant (drop (suc i) parts))) (shift (suc i) E))

      opened : (i : ℕ) (p : Term Head M) (b : Bool) (ys : List (Draft A M)) → drop i parts ≡ p ∷ drop (suc i) parts → U i ≡ b → Covers holds make D no_terms Wanted More (one_rest i p b) ys → RestFrom i ys
      opened i p b ys e is c =
          subst (λ ps. Covers holds make D no_terms Wanted More (λ E. rest_ways T (shift i U) (parts_of (meant ps)) (shift i E)) ys) (sym e)
          (subst (λ b. Covers holds make D no_terms Wanted More (one_rest i p b) ys) (sym (shift_at i U ∙ is)) c)

      pub rest_more : (i : ℕ) (p : Term Head M) (all : List ℕ) (fs ws ys : List (Draft A M)) → drop i parts ≡ p ∷ drop (suc i) parts → U i ≡ false → Grown [] all (Contains (wanted_in demands i)) → IsFree holds make D second p all fs → RestFrom (suc i) ws → AreProducts eq fs ws ys → RestFrom i ys
      rest_more i p all fs ws ys e is g free rest products =
          opened i p false ys e is
          (covers_pairs holds eq make same D first_of no_terms no_terms no_terms (λ x y. refl) Wanted More (λ E. free_ways T (with_maps make p) (shift i E 0)) (λ E. rest_ways T (shift (suc i) U) (parts_of (meant (drop (suc i) parts))) (shift (suc i) E)) fs ws ys
          (covers_at no_terms parts second demands i all g (λ E. shift i E 0) (λ E. shift_at i E) (free_ways T (with_maps make p)) fs free) rest products)

      pub rest_skip : (i : ℕ) (p : Term Head M) (ys : List (Draft A M)) → drop i parts ≡ p ∷ drop (suc i) parts → U i ≡ true → RestFrom (suc i) ys → RestFrom i ys
      rest_skip i p ys e is rest = opened i p true ys e is (covers_skip Wanted More (λ E. rest_ways T (shift (suc i) U) (parts_of (meant (drop (suc i) parts))) (shift (suc i) E)) ys rest)

    -- ---- one part

    at_some : (ps : List (Term Head (Label → Label))) (j : ℕ) (d : Term Head (Label → Label)) (Z : List ℕ) (h : Head) → j < length ps → gives_at T j (parts_of ps) Z h ≡ gives_ways T (get_or ps j d) Z h
    at_some [] j d Z h low = absurd (omega (arith, low))
    at_some (p ∷ ps) zero d Z h low = refl
    at_some (p ∷ ps) (suc j) d Z h low = at_some ps j d Z h (omega (arith, low))

    at_none : (ps : List (Term Head (Label → Label))) (j : ℕ) (Z : List ℕ) (h : Head) → length ps ≤ j → gives_at T j (parts_of ps) Z h ≡ []
    at_none [] j Z h low = refl
    at_none (p ∷ ps) zero Z h low = absurd (omega (arith, low))
    at_none (p ∷ ps) (suc j) Z h low = at_none ps j Z h (omega (arith, low))

    mapped_at : (ps : List (Term Head M)) (j : ℕ) (p : Term Head M) → j < length ps → get_or ps j p ≡ p → get_or (meant ps) j (with_maps make p) ≡ with_maps make p
    mapped_at [] j p low is = absurd (omega (arith, low))
    mapped_at (q ∷ ps) zero p low is = ap (with_maps make) is
    mapped_at (q ∷ ps) (suc j) p low is = mapped_at ps j p (omega (arith, low)) is

    mapped_long : (ps : List (Term Head M)) → length (meant ps) ≡ length ps
    mapped_long [] = refl
    mapped_long (p ∷ ps) = ap suc (mapped_long ps)

    pub at_found : (j : ℕ) (p : Term Head M) (h : Head) (all : List ℕ) (ys : List (Draft A M)) → j < length parts → get_or parts j p ≡ p → Grown [] all (Contains (wanted_in demands j)) → IsGiven holds make D second p all h ys → IsAt holds make D second parts demands j h ys
    at_found j p h all ys low is g given =
        let c = covers_at only parts second demands j all g (λ E. E j) (λ E. refl) (λ Z. gives_ways T (with_maps make p) Z h) ys given in
        let e : (E : ℕ → List ℕ) → gives_at T j (parts_of (meant parts)) (E j) h ≡ gives_ways T (with_maps make p) (E j) h = λ E.
        at_some (meant parts) j (with_maps make p) (E j) h (omega (arith, low, mapped_long parts)) ∙ ap (λ q. gives_ways T q (E j) h) (mapped_at parts j p low is) in
        record {
          each = λ E w y at. let (z, in_z, s) = c.each E w y at in (z, subst (λ zs. Contains zs z) (sym (e E)) in_z, s);
          all = λ E w z at. c.all E w z (subst (λ zs. Contains zs z) (e E) at);
        }

    pub at_nothing : (j : ℕ) (h : Head) (ys : List (Draft A M)) → length parts ≤ j → ys ≡ [] → IsAt holds make D second parts demands j h ys
    at_nothing j h ys low none = record {
      each = λ E w y at. absurd (nil_out y (subst (λ zs. Contains zs y) none at));
      all = λ E w z at. absurd (nil_out z (subst (λ zs. Contains zs z) (at_none (meant parts) j (E j) h (omega (arith, low, mapped_long parts))) at));
    }

    -- ---- the second's terms

    module _ (m : M) where
      abbrev Os : (ℕ → List ℕ) → Head → ℕ → List (WayOf Label (Term Triple (Label → Label)))
      Os E h j = gives_at T j (parts_of (meant parts)) (E j) h

      abbrev pub OverFrom : List (Term Head M) → ℕ → List (Draft A M) → Type 0
      OverFrom ts i ys = AreOver holds make D second parts demands m (drop i ts) ys

      pub over_start : (ts : List (Term Head M)) (i : ℕ) (ys : List (Draft A M)) → length ts ≤ i → IsLeaf 0 [] [] ys → OverFrom ts i ys
      over_start ts i ys low leaf = subst (λ us. AreOver holds make D second parts demands m us ys) (sym (drop_all i ts low)) (covers_plain holds make D list_of no_parts refl Wanted More ys leaf)

      pub over_more : (ts : List (Term Head M)) (i : ℕ) (t : Term Head M) (fs ws ys : List (Draft A M)) → drop i ts ≡ t ∷ drop (suc i) ts → IsOver holds make D second parts demands m t fs → OverFrom ts (suc i) ws → AreProducts eq fs ws ys → OverFrom ts i ys
      over_more ts i t fs ws ys e first rest products =
          subst (λ us. AreOver holds make D second parts demands m us ys) (sym e)
          (covers_pairs holds eq make same D part only list_of list_of (λ x y. refl) Wanted More (λ E. over_term (make m) (Os E) (with_maps make t)) (λ E. over_parts (make m) (Os E) (parts_of (meant (drop (suc i) ts)))) fs ws ys first rest products)

      abbrev pub KeptFrom : ℕ → List (Draft A M) → Type 0
      KeptFrom i ys = Covers holds make D list_of Wanted More (λ E. over_parts (make m) (Os E) (kept i (length (drop i parts)))) ys

      pub kept_start : (i : ℕ) (ys : List (Draft A M)) → length parts ≤ i → IsLeaf 0 [] [] ys → KeptFrom i ys
      kept_start i ys low leaf = subst (λ us. Covers holds make D list_of Wanted More (λ E. over_parts (make m) (Os E) (kept i (length us))) ys) (sym (drop_all i parts low)) (covers_plain holds make D list_of no_parts refl Wanted More ys leaf)

      pub kept_more : (i : ℕ) (p : Term Head M) (fs ws ys : List (Draft A M)) → drop i parts ≡ p ∷ drop (suc i) parts → IsAt holds make D second parts demands i identity fs → KeptFrom (suc i) ws → AreProducts eq fs ws ys → KeptFrom i ys
      kept_more i p fs ws ys e first rest products =
          subst (λ us. Covers holds make D list_of Wanted More (λ E. over_parts (make m) (Os E) (kept i (length us))) ys) (sym e)
          (covers_pairs holds eq make same D part only list_of list_of (λ x y. refl) Wanted More (λ E. Os E identity i) (λ E. over_parts (make m) (Os E) (kept (suc i) (length (drop (suc i) parts)))) fs ws ys first rest products)

      sized : (ps : List (Term Head (Label → Label))) → size (parts_of ps) ≡ length ps
      sized [] = refl
      sized (p ∷ ps) = ap suc (sized ps)

      pub kept_end : (ys : List (Draft A M)) → KeptFrom 0 ys → AreKept holds make D second parts demands m ys
      kept_end ys c = subst (λ n. Covers holds make D list_of Wanted More (λ E. over_parts (make m) (Os E) (kept 0 n)) ys) (sym (sized (meant parts) ∙ mapped_long parts)) c

  -- ---- nodes

  module _ (Stands : M → Type 0) (c : ℕ) (label : Label → Label) where
    node_says : (R : Triple → Triple → Type 0) (row y : Draft A M) (qs : Parts Triple (Label → Label)) → IsNodeOver make D Stands c label row y → AllStand R D (terms_at holds make row) (list_of qs) → AllStand R D (terms_at holds make y) (build c label qs ∷ [])
    node_says R row y qs is a =
        subst (λ ts. AllStand R D (map (with_maps make) ts) (build c label qs ∷ [])) (sym is.node)
        ((refl, is.makes, subst (λ ps. StandFor R D ps qs) (sym (mapped (terms_of row))) (parts_stand R D (terms_at holds make row) qs a)), tt)
      where
        mapped : (ts : List (Term Triple M)) → parts_with_maps make (parts_of ts) ≡ parts_of (map (with_maps make) ts)
        mapped [] = refl
        mapped (t ∷ ts) = ap (part (with_maps make t)) (mapped ts)

    -- a node over each row
    pub covers_nodes : {I : Type 0} (Same More : I → Type 0) (ws : I → List (WayOf Label (Parts Triple (Label → Label)))) (rows ys : List (Draft A M)) → Covers holds make D list_of Same More ws rows → AreNodesOver make D Stands c label rows ys → Covers holds make D only Same More (λ i. map (with_term (build c label)) (ws i)) ys
    covers_nodes Same More ws rows ys cov nodes = record {
      each = λ i s y at.
          let (row, in_rows, is) = nodes.each y at in
          let (w, in_w, says) = cov.each i s row in_rows in (
            with_term (build c label) w,
            to_mapped (with_term (build c label)) (ws i) w in_w,
            record {
              guard = λ l d. ap (λ gs. all_say holds gs l) is.same_guards ∙ says.guard l d;
              asks = λ j n a. says.asks j n (subst (λ ds. IsAskedIn ds j n) is.same_demands a);
              asked_of = λ j k a. let (n, b, r) = says.asked_of j k a in (n, subst (λ ds. IsAskedIn ds j n) (sym is.same_demands) b, r);
              same_terms = node_says SameTriple row y w.term is says.same_terms;
            },
          );
      all = λ i s z at.
          let (w, in_w, e) = of_mapped (with_term (build c label)) (ws i) z at in
          subst (λ z. NeverHolds holds make D only z ⊎ ((y : Draft A M) × Contains ys y × SaysLess holds make D only y z)) e
          (elim (cov.all i s w in_w) [
            | inl never ↦ inl never
            | inr found ↦ inr (
                let (row, in_rows, less) = found in
                let (y, in_ys, is) = nodes.all row in_rows in (
                  y,
                  in_ys,
                  record {
                    guard = λ l d h. ap (λ gs. all_say holds gs l) is.same_guards ∙ less.guard l d h;
                    asks = λ j n a. less.asks j n (subst (λ ds. IsAskedIn ds j n) is.same_demands a);
                    freer_terms = node_says IsFreer row y w.term is less.freer_terms;
                  },
                )
                )
          ]);
    }

  -- ---- picks one by one

  module _ (eq : M → M → Bool) (same : (m n : M) (l : Label) → eq m n ≡ true → make m l ≡ make n l) {X : Type 0} (terms : X → List (Term Triple (Label → Label))) (ways : Option (Term Head M) → (ℕ → List ℕ) → List (WayOf Label X)) where
    pub picks_start : CoversPicks holds make D terms ways [] []
    picks_start = record { each = λ y at. absurd (nil_out y at); all = λ x at. absurd (nil_out x at) }

    module _ (x : Pick A M) (first : Draft A M) (guards : guards_of first ≡ pick_guards x) (no_demands : first.demands.items ≡ []) (none : terms_of first ≡ []) where
      abbrev alone_way : WayOf Label ⊤
      alone_way = record { guard = all_say holds (pick_guards x); demands = []; term = tt }

      says_alone : SaysSame holds make D no_terms first alone_way
      says_alone = record {
        guard = λ l d. ap (λ gs. all_say holds gs l) guards;
        asks = λ j n a. absurd (nothing_asked j n (subst (λ ds. IsAskedIn ds j n) no_demands a));
        asked_of = λ j m a. absurd (nil_out m a);
        same_terms = subst (λ ts. AllStand SameTriple D (map (with_maps make) ts) []) (sym none) tt;
      }

      less_alone : SaysLess holds make D no_terms first alone_way
      less_alone = record {
        guard = λ l d h. ap (λ gs. all_say holds gs l) guards ∙ h;
        asks = λ j n a. absurd (nothing_asked j n (subst (λ ds. IsAskedIn ds j n) no_demands a));
        freer_terms = subst (λ ts. AllStand IsFreer D (map (with_maps make) ts) []) (sym none) tt;
      }

      pub picks_more : (xs : List (Pick A M)) (ws old new : List (Draft A M)) → CoversPicks holds make D terms ways xs old
          → Covers holds make D terms (λ E. (j : ℕ) → SameStates (wants_of x j) (E j)) (λ E. (j : ℕ) → AreAmong (wants_of x j) (E j)) (ways (pick_term x)) ws → AddsProducts eq first ws old new → CoversPicks holds make D terms ways (xs ++ x ∷ []) new
      picks_more xs ws old new c w adds = record {
        each = λ y at. elim (adds.each y at) [
          | inl b ↦ (let (u, in_xs, f) = c.each y b in (u, push_old xs x u in_xs, f))
          | inr found ↦ (x, push_new xs x, λ E s. (let (b, in_ws, both) = found in let (z, in_z, says) = w.each E s b in_ws in (z, in_z, same_both holds eq make same D second_of no_terms terms terms (λ a y. refl) first b y alone_way z both says_alone says)))
        ];
        all = λ u at E s z in_z. elim (push_out xs x u at) [
          | inl b ↦ elim (c.all u b E s z in_z) [ inl never ↦ inl never | inr found ↦ inr (let (y, in_old, less) = found in (y, adds.kept y in_old, less)) ]
          | inr e ↦ subst (λ u. NeverHolds holds make D terms (guarded (all_say holds (pick_guards u)) z) ⊎ ((y : Draft A M) × Contains new y × SaysLess holds make D terms y (guarded (all_say holds (pick_guards u)) z))) e
              (elim (w.all E (subst (λ u. (j : ℕ) → AreAmong (wants_of u j) (E j)) (sym e) s) z (subst (λ u. Contains (ways (pick_term u) E) z) (sym e) in_z)) [
                | inl never ↦ inl (λ l d. and_false (all_say holds (pick_guards x) l) (z.guard l) (inr (never l d)))
                | inr found ↦ inr (let (b, in_ws, less) = found in let (y, in_new, both) = adds.all b in_ws in (y, in_new, less_both holds eq make same D second_of no_terms terms terms (λ a y. refl) first b y alone_way z both less_alone less))
              ])
        ];
      }
