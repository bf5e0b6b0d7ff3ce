-- One turn of the search.
use Rattle.std.proofs.Common.{ℕ, zero, suc, ◌≡◌, ◌<◌, ◌≤◌, ◌⊎◌, inl, inr, Option, None, Some, List, [], ◌∷◌, ◌++◌, length, map, get_or, All, Contains, refl, sym, ap, ap₂, subst, ◌∙◌, arith}
use Rattle.std.proofs.lemmas.Bool.{cases_lt}
use Rattle.std.proofs.lemmas.List.{length-map, map-append, length_push}
use Rattle.std.proofs.lemmas.List.Elements.{All-nil, Contains-push, Contains-push_cases, Contains-append_left}
use Rattle.model_tree.specs.Label.{Label}
use Rattle.model_tree.specs.Tree.{Tree, node_count}
use Rattle.model_sta.specs.Automaton.{Rule}
use Rattle.model_sta.specs.Sets.{Row, Each, step, set_of, Fits}
use Rattle.model_sta.specs.Reached.{IsReached, AreSets, IsComplete, HasMoreSets}
use Rattle.model_sta.specs.Least.{Found, rows_of, counts_of, rows_at, nodes_at, cost, IsMade, IsLeast, AreClasses}
use Rattle.model_sta.proofs.Reached.{same_default, step_reached, sets_push}
use Rattle.model_sta.proofs.Least.{new_is_least, each_push, numbered_push, numbered_map}
use Rattle.sta_classes.specs.Rows.{found_of, founds}
use Rattle.sta_classes.specs.Listed.{AreCheapest, AreListed, CostsOverKinds}
use Rattle.sta_classes.specs.Pending.{IsPending, IsMet, IsBetter, AreKept, IsOffered, IsTaken, IsDone, count_none}
use Rattle.sta_classes.specs.Searched.{IsSound, IsOpened}
use Rattle.sta_classes.specs.declared.class.Class.{Class}
use Rattle.sta_classes.specs.declared.class.TheConstants.{CAP}
use Rattle.sta_classes.specs.declared.pending.Pending.{Pending}
use Rattle.sta_classes.proofs.Listed.{found_or_large}
use Rattle.sta_classes.proofs.Offers.{count_below}

one_kept : {X Y : Type 0} (f : X → Y) (xs : List X) (y : X) (d : Y) (k : ℕ) → k < length xs → get_or (map f (xs ++ y ∷ [])) k d ≡ get_or (map f xs) k d
one_kept f [] y d k l = absurd (omega arith)
one_kept f (x ∷ xs) y d zero l = refl
one_kept f (x ∷ xs) y d (suc k) l = one_kept f xs y d k (omega arith)

one_new : {X Y : Type 0} (f : X → Y) (xs : List X) (y : X) (d : Y) (k : ℕ) → k ≡ length xs → get_or (map f (xs ++ y ∷ [])) k d ≡ f y
one_new f [] y d zero l = refl
one_new f [] y d (suc k) l = absurd (omega (arith, l))
one_new f (x ∷ xs) y d zero l = absurd (omega (arith, l))
one_new f (x ∷ xs) y d (suc k) l = one_new f xs y d k (omega (arith, l))

-- what stands at places of a list stays where more are put behind
pub kept_places : {X Y : Type 0} (f : X → Y) (xs : List X) (y : X) (d : Y) (ks : List ℕ) → Each (λ k. k < length xs) ks → map (λ k. get_or (map f (xs ++ y ∷ [])) k d) ks ≡ map (λ k. get_or (map f xs) k d) ks
kept_places f xs y d [] h = refl
kept_places f xs y d (k ∷ ks) h = ap₂ (λ a b. a ∷ b) (one_kept f xs y d k h.0) (kept_places f xs y d ks h.1)

weaker_each : (m n : ℕ) → m ≤ n → (ks : List ℕ) → Each (λ k. k < m) ks → Each (λ k. k < n) ks
weaker_each m n l [] h = tt
weaker_each m n l (k ∷ ks) h = ((let low : k < m = h.0 in omega arith), weaker_each m n l ks h.1)

module _ {L : Type 0} (cap : ℕ) (ranks : List ℕ) (has keeps : L → Type 0) (rules : List (List (Rule L))) (found : List (Found L)) (f : Found L) where
  -- a node over found classes stays one
  pub made_more : (k : ℕ) (g : Found L) → k ≤ length found → IsMade cap ranks keeps rules found k g → IsMade cap ranks keeps rules (found ++ f ∷ []) k g
  made_more k g low m =
      let lows = weaker_each k (length found) low g.children m.earlier in
      record {
        low = m.low;
        is_label = m.is_label;
        wide = m.wide;
        earlier = m.earlier;
        row_is = m.row_is ∙ sym (ap (step rules g.constructor g.label) (kept_places (λ e. e.row) found f [] g.children lows));
        nodes_are = m.nodes_are ∙ sym (ap (cost cap) (kept_places (λ e. e.nodes) found f 0 g.children lows));
      }

  pub made_later : (k n : ℕ) (g : Found L) → k ≤ n → IsMade cap ranks keeps rules found k g → IsMade cap ranks keeps rules found n g
  made_later k n g low m = record { low = m.low; is_label = m.is_label; wide = m.wide; earlier = weaker_each k n low g.children m.earlier; row_is = m.row_is; nodes_are = m.nodes_are }

  reached_at : (P : Row → Type 0) → All P (rows_of found) → (ks : List ℕ) → Each (λ k. k < length found) ks → Each P (rows_at found ks)
  reached_at P h [] low = tt
  reached_at P h (k ∷ ks) low =
      let l : k < length found = low.0 in
      let n : length (rows_of found) ≡ length found = length-map found (λ g. g.row) in
      (h k [] (omega arith), reached_at P h ks low.1)

  -- its set is one that a tree has
  pub made_reached : (g : Found L) → AreSets ranks keeps rules (rows_of found) → IsMade cap ranks keeps rules found (length found) g → IsReached ranks keeps rules g.row
  made_reached g sets m =
      subst (IsReached ranks keeps rules) (sym m.row_is)
      (step_reached ranks keeps rules g.constructor m.low g.label m.is_label (rows_at found g.children) (length-map g.children (λ k. get_or (rows_of found) k []) ∙ m.wide)
      (reached_at (IsReached ranks keeps rules) sets.reached g.children m.earlier))

  -- one more class
  pub next_classes : AreClasses cap ranks has keeps rules found → IsMade cap ranks keeps rules found (length found) f → ¬ Contains (rows_of found) f.row
      → ((t : Tree L) → Fits ranks has t → Contains (rows_of found) (set_of rules t) ⊎ (f.nodes ≤ node_count t)) → AreClasses cap ranks has keeps rules (found ++ f ∷ [])
  next_classes h m new large =
      let rows : rows_of (found ++ f ∷ []) ≡ rows_of found ++ f.row ∷ [] = map-append (λ g. g.row) found (f ∷ []) in
      record {
        sets = subst (AreSets ranks keeps rules) (sym rows) (sets_push ranks keeps rules (rows_of found) f.row h.sets (made_reached f h.sets m) new);
        made = numbered_push (IsMade cap ranks keeps rules (found ++ f ∷ [])) found f
            (numbered_map (IsMade cap ranks keeps rules found) (IsMade cap ranks keeps rules (found ++ f ∷ [])) (length found) (λ k g low w. made_more k g (omega arith) w) found (omega arith) h.made)
            (made_more (length found) f (omega arith) m);
        least = each_push (IsLeast cap ranks has rules) found f h.least (new_is_least cap ranks has rules found f large new);
      }

module _ {V : Type 0} (ranks : List ℕ) (has keeps : Label → Type 0) (rules : List (List (Rule Label))) (label : V → Label) where
  found_long : (found : List (Class V)) → length (founds label found) ≡ length found
  found_long found = length-map found (found_of label)

  -- before there are classes
  pub sound_first : (s : Pending V) → AreKept s → s.best.items ≡ [] → IsSound ranks has keeps rules label [] s
  sound_first s kept none = record {
    classes = record { sets = record { reached = All-nil (IsReached ranks keeps rules); apart = λ i j a b e. omega arith }; made = tt; least = tt };
    rising = λ i k l low. absurd (omega arith);
    kept = kept;
    made = λ i c p. absurd (empty i p.0);
    above = λ i c p k low. omega arith;
    settled = λ q. ((λ p. absurd (empty p.0 p.1)), (λ at. absurd (omega (arith, at.1))));
    count = ap count_none none;
  }
    where
      empty : (i : ℕ) → i < length s.best.items → ⊥
      empty i low = omega (arith, low, ap length none)

  module _ (found : List (Class V)) (old new : Pending V) (h : IsSound ranks has keeps rules label found old) where
    -- what is opened stays so
    pub opened_later : (c : ℕ) (ks : List ℕ) → IsBetter old new → IsOpened ranks has keeps rules label found old c ks → IsOpened ranks has keeps rules label found new c ks
    opened_later c ks better opened l d = better (step rules c l (rows_at (founds label found) ks)) (cost CAP (nodes_at (founds label found) ks)) (opened l d)

    pub sound_offered : (f : Found Label) → AreKept new → IsOffered label old new f → IsMade CAP ranks keeps rules (founds label found) (length found) f
        → ((k : ℕ) → k < length found → get_or (counts_of (founds label found)) k 0 ≤ f.nodes) → IsSound ranks has keeps rules label found new
    sound_offered f kept offer made above = record {
      classes = h.classes;
      rising = h.rising;
      kept = kept;
      made = λ i c p. elim (offer.candidates i c p) [ inl before ↦ h.made before.0 c before.1 | inr is ↦ subst (IsMade CAP ranks keeps rules (founds label found) (length found)) (sym is) made ];
      above = λ i c p k low. elim (offer.candidates i c p) [ inl before ↦ h.above before.0 c before.1 k low | inr is ↦ (let n : c.nodes ≡ f.nodes = ap (λ z. z.nodes) is in omega (arith, above k low, n)) ];
      settled = λ q. ((λ s. (h.settled q).0 ((offer.settled q).0 s)), (λ at. (offer.settled q).1 ((h.settled q).1 at)));
      count = offer.count ∙ h.count;
    }

    -- more sets than are allowed are told apart
    pub more_sets : (most : ℕ) → most < length old.sets.keys → HasMoreSets ranks keeps rules most
    more_sets most many = (
      old.sets.keys,
      record {
        reached = λ i d low. reached i low d;
        apart = λ i j less low e. omega (arith, h.kept.apart i j (omega (arith, less, low)) low e, less);
      },
      many,
    )
      where
        reached : (i : ℕ) → i < length old.sets.keys → (d : Row) → IsReached ranks keeps rules (get_or old.sets.keys i d)
        reached i low d = subst (IsReached ranks keeps rules) (same_default old.sets.keys i [] d low) (by (get_or old.best.items i None) refl)
          where
            inside : i < length old.best.items
            inside = omega (arith, low, h.kept.many)

            by : (o : Option (Class V)) → get_or old.best.items i None ≡ o → IsReached ranks keeps rules (get_or old.sets.keys i [])
            by None e =
                let at = (h.settled (get_or old.sets.keys i [])).0 (i, inside, refl, e) in
                subst (IsReached ranks keeps rules) (same_default (rows_of (founds label found)) at.0 [] (get_or old.sets.keys i []) at.1 ∙ at.2) (h.classes.sets.reached at.0 [] at.1)
            by (Some c) e =
                let (row, nodes) = h.kept.rows i c (inside, e) in
                subst (IsReached ranks keeps rules) row
                (made_reached CAP ranks has keeps rules (founds label found) (found_of label c) (found_of label c) h.classes.sets (subst (λ n. IsMade CAP ranks keeps rules (founds label found) n (found_of label c)) (sym (found_long found)) (h.made i c (inside, e))))

    module _ (listed : ℕ → ℕ → List ℕ) (are : AreCheapest rules ranks (founds label found) listed)
        (opened : (c : ℕ) → c < length ranks → (ks : List ℕ) → AreListed rules ranks (founds label found) listed c ks → IsOpened ranks has keeps rules label found old c ks) where
      -- trees whose sets aren't found have at least as many nodes as each candidate
      costs : (m : ℕ) → ((i : ℕ) (d : Class V) → IsPending old i d → m ≤ d.nodes) → CostsOverKinds rules ranks (founds label found) listed CAP has m
      costs m least c low ks over l given = by (opened c low ks over l given)
        where
          q : Row
          q = step rules c l (rows_at (founds label found) ks)

          by : IsMet old (step rules c l (rows_at (founds label found) ks)) (cost CAP (nodes_at (founds label found) ks)) → Contains (rows_of (founds label found)) (step rules c l (rows_at (founds label found) ks)) ⊎ (m ≤ cost CAP (nodes_at (founds label found) ks))
          by (i, inside, at, few) = case (get_or old.best.items i None) refl
            where
              case : (o : Option (Class V)) → get_or old.best.items i None ≡ o → Contains (rows_of (founds label found)) (step rules c l (rows_at (founds label found) ks)) ⊎ (m ≤ cost CAP (nodes_at (founds label found) ks))
              case None e = inl ((h.settled (step rules c l (rows_at (founds label found) ks))).0 (i, inside, at, e))
              case (Some d) e = inr (omega (arith, least i d (inside, e), few d e))

      pub large : (m : ℕ) → ((i : ℕ) (d : Class V) → IsPending old i d → m ≤ d.nodes) → (t : Tree Label) → Fits ranks has t → Contains (rows_of (founds label found)) (set_of rules t) ⊎ (m ≤ node_count t)
      large m least = found_or_large CAP ranks has rules (founds label found) listed m h.classes.least are (costs m least)

      -- where nothing is pending, the set of each tree is found
      pub all_found : IsDone old new → IsComplete ranks has rules (rows_of (founds label found))
      all_found done t fits = elim (large (suc (node_count t)) (λ i d p. absurd (done.none i d p)) t fits) [ inl at ↦ at | inr more ↦ absurd (omega (arith, more)) ]

      module _ (c : Class V) (taken : IsTaken old new c) (kept : AreKept new) where
        at_end : founds label (found ++ c ∷ []) ≡ founds label found ++ found_of label c ∷ []
        at_end = map-append (found_of label) found (c ∷ [])

        fresh : ¬ Contains (rows_of (founds label found)) c.row
        fresh at =
            let (i, p) = taken.member in
            let (m, inside, is, none) = (h.settled c.row).1 at in
            let same : i ≡ m = h.kept.apart i m (omega (arith, p.0, h.kept.many)) (omega (arith, inside, h.kept.many)) (sym (h.kept.rows i c p).0 ∙ sym is) in
            some_none (sym p.1 ∙ ap (λ k. get_or old.best.items k None) same ∙ none)
          where
            some_none : Some c ≡ None → ⊥
            some_none e = cc

        made_c : IsMade CAP ranks keeps rules (founds label found) (length (founds label found)) (found_of label c)
        made_c = subst (λ n. IsMade CAP ranks keeps rules (founds label found) n (found_of label c)) (sym (found_long found)) (h.made taken.member.0 c taken.member.1)

        classes_more : AreClasses CAP ranks has keeps rules (founds label found ++ found_of label c ∷ [])
        classes_more = next_classes CAP ranks has keeps rules (founds label found) (found_of label c) h.classes made_c fresh (large c.nodes taken.least)

        counts_old : (k : ℕ) → k < length found → get_or (counts_of (founds label (found ++ c ∷ []))) k 0 ≡ get_or (counts_of (founds label found)) k 0
        counts_old k low = ap (λ z. get_or (counts_of z) k 0) at_end ∙ one_kept (λ g. g.nodes) (founds label found) (found_of label c) 0 k (omega (arith, low, found_long found))

        counts_new : (k : ℕ) → k ≡ length found → get_or (counts_of (founds label (found ++ c ∷ []))) k 0 ≡ c.nodes
        counts_new k e = ap (λ z. get_or (counts_of z) k 0) at_end ∙ one_new (λ g. g.nodes) (founds label found) (found_of label c) 0 k (e ∙ sym (found_long found))

        -- one more class is found
        pub sound_taken : IsSound ranks has keeps rules label (found ++ c ∷ []) new
        sound_taken = record {
          classes = subst (AreClasses CAP ranks has keeps rules) (sym at_end) classes_more;
          rising = λ i k less low. elim (cases_lt k (length found)) [
            | inl below ↦ omega (arith, h.rising i k less below, counts_old k below, counts_old i (omega (arith, less, below)))
            | inr past ↦
                let here : k ≡ length found = omega (arith, past, low, length_push found c) in
                elim (cases_lt i (length found)) [
                  | inl i_below ↦ omega (arith, h.above taken.member.0 c taken.member.1 i i_below, counts_old i i_below, counts_new k here)
                  | inr i_past ↦ omega (arith, counts_new k here, counts_new i (omega (arith, i_past, less, here)))
                ]
          ];
          kept = kept;
          made = λ i d p. subst (λ z. IsMade CAP ranks keeps rules z (length (found ++ c ∷ [])) (found_of label d)) (sym at_end)
              (made_later CAP ranks has keeps rules (founds label found ++ found_of label c ∷ []) (found_of label c) (length (founds label found)) (length (found ++ c ∷ [])) (found_of label d) (omega (arith, found_long found, length_push found c))
              (made_more CAP ranks has keeps rules (founds label found) (found_of label c) (length (founds label found)) (found_of label d) (omega arith)
              (subst (λ n. IsMade CAP ranks keeps rules (founds label found) n (found_of label d)) (sym (found_long found)) (h.made i d (taken.candidates i d p)))));
          above = λ i d p k low. elim (cases_lt k (length found)) [
            | inl below ↦ omega (arith, h.above i d (taken.candidates i d p) k below, counts_old k below)
            | inr past ↦ omega (arith, taken.least i d (taken.candidates i d p), counts_new k (omega (arith, past, low, length_push found c)))
          ];
          settled = λ q. (
            (λ s. elim ((taken.settled q).0 s) [
              | inl before ↦ subst (λ z. Contains z q) (sym rows_end) (Contains-append_left (rows_of (founds label found)) (c.row ∷ []) q ((h.settled q).0 before))
              | inr is ↦ subst (λ z. Contains z q) (sym rows_end) (subst (Contains (rows_of (founds label found) ++ c.row ∷ [])) is (Contains-push (rows_of (founds label found)) c.row))
            ]),
            (λ at. elim (Contains-push_cases (rows_of (founds label found)) c.row q (subst (λ z. Contains z q) rows_end at)) [
              | inl before ↦ (taken.settled q).1 (inl ((h.settled q).1 before))
              | inr is ↦ (taken.settled q).1 (inr is)
            ]),
          );
          count = omega (arith, taken.count, h.count, length_push found c);
        }
          where
            rows_end : rows_of (founds label (found ++ c ∷ [])) ≡ rows_of (founds label found) ++ c.row ∷ []
            rows_end = ap rows_of at_end ∙ map-append (λ g. g.row) (founds label found) (found_of label c ∷ [])

  -- what is opened stays so where one more class is found
  pub opened_more : (found : List (Class V)) (c : Class V) (s : Pending V) (n : ℕ) (ks : List ℕ) → Each (λ k. k < length found) ks → IsOpened ranks has keeps rules label found s n ks → IsOpened ranks has keeps rules label (found ++ c ∷ []) s n ks
  opened_more found c s n ks lows opened l d =
      let end : founds label (found ++ c ∷ []) ≡ founds label found ++ found_of label c ∷ [] = map-append (found_of label) found (c ∷ []) in
      let low : Each (λ k. k < length (founds label found)) ks = subst (λ m. Each (λ k. k < m) ks) (sym (found_long found)) lows in
      subst (λ z. IsMet s (step rules n l (rows_at z ks)) (cost CAP (nodes_at z ks))) (sym end)
      (subst (λ z. IsMet s (step rules n l z) (cost CAP (nodes_at (founds label found ++ found_of label c ∷ []) ks))) (sym (kept_places (λ g. g.row) (founds label found) (found_of label c) [] ks low))
      (subst (λ z. IsMet s (step rules n l (rows_at (founds label found) ks)) (cost CAP z)) (sym (kept_places (λ g. g.nodes) (founds label found) (found_of label c) 0 ks low)) (opened l d)))

  -- there are at most as many classes as sets
  pub few_found : (found : List (Class V)) (s : Pending V) → IsSound ranks has keeps rules label found s → length found ≤ length s.sets.keys
  few_found found s h = omega (arith, h.count, h.kept.many, count_below s.best.items)
