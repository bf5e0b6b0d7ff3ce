-- Blocks that rounds split are those that contexts tell apart.
use Rattle.std.proofs.Common.{ℕ, zero, suc, ◌≡◌, ◌<◌, inl, inr, Bool, List, [], ◌∷◌, ◌++◌, get_or, set, take, drop, length, map, Contains, refl, sym, ap, ap₂, subst, ◌∙◌, arith, append_assoc}
use Rattle.std.proofs.lemmas.Bool.{cases_eq}
use Rattle.std.proofs.lemmas.List.{length-set, get_or-set_same, get_or-set_other, set_split, set_at, map-set, length-map}
use Rattle.model_tree.specs.Tree.{Tree, node, Trees, no_trees, tree, trees_of}
use Rattle.model_sta.specs.Automaton.{Rule}
use Rattle.model_sta.specs.Sets.{Row, Each, has, step, set_of, sets_of, width, Fits, FitsAll}
use Rattle.model_sta.specs.Reached.{IsReached}
use Rattle.model_sta.proofs.Sets.{step_agree, width_sets}
use Rattle.model_sta.proofs.Reached.{step_reached}
use Rattle.sta_theory.specs.Kinds.{OneKind, OneKinds}
use Rattle.model_sta.specs.Contexts.{Context, hole, around, filled}
use Rattle.sta_theory.specs.Contexts.{AreToldApart}
use Rattle.sta_theory.specs.Machines.{states, IsMachine, IsLeastMachine}
use Rattle.sta_theory.specs.Blocks.{KindTable, IsKindTable, AreOfKinds, StepsAlike, StepsApart, IsStable, IsRound, member_of, RowsApart, AreBlocks, AreNumbered}
use Rattle.sta_theory.proofs.Fires.{step_same_kinds, choose}
use Rattle.sta_theory.proofs.Deterministic.{head_same, rest_same, not_empty}

-- ---- lists with one element in a place

module _ {X : Type 0} (P : X → Type 0) where
  pub each_set : (xs : List X) (p : ℕ) (y : X) → Each P xs → P y → Each P (set xs p y)
  each_set [] p y h k = h
  each_set (x ∷ xs) zero y h k = (k, h.1)
  each_set (x ∷ xs) (suc p) y h k = (h.0, each_set xs p y h.1 k)

  each_behind : (xs ys : List X) → Each P xs → Each P ys → Each P (xs ++ ys)
  each_behind [] ys f g = g
  each_behind (x ∷ xs) ys f g = (f.0, each_behind xs ys f.1 g)

  each_at : (xs : List X) (d : X) → ((j : ℕ) → j < length xs → P (get_or xs j d)) → Each P xs
  each_at [] d h = tt
  each_at (x ∷ xs) d h = (h 0 (omega arith), each_at xs d (λ j low. h (suc j) (omega arith)))

pub each_map : {X : Type 0} (P Q : X → Type 0) → ((x : X) → P x → Q x) → (xs : List X) → Each P xs → Each Q xs
each_map P Q f [] h = tt
each_map P Q f (x ∷ xs) h = (f x h.0, each_map P Q f xs h.1)

-- ---- a context in the hole of another

abbrev within : {L : Type 0} → Context L → Context L → Context L
within hole inner = inner
within (around c l before k after) inner = around c l before (within k inner) after

filled_within : {L : Type 0} (k inner : Context L) (t : Tree L) → filled (within k inner) t ≡ filled k (filled inner t)
filled_within hole inner t = refl
filled_within (around c l before k after) inner t = ap (λ u. node c l (trees_of (before ++ u ∷ after))) (filled_within k inner t)

-- trees are told apart where trees around them are
told_inside : {L : Type 0} (ranks : List ℕ) (D : L → Type 0) (member : Tree L → Bool) (inner : Context L) (s t : Tree L) → AreToldApart ranks D member (filled inner s) (filled inner t) → AreToldApart ranks D member s t
told_inside ranks D member inner s t (k, fs, ft, differ) = (
  within k inner,
  subst (Fits ranks D) (sym (filled_within k inner s)) fs,
  subst (Fits ranks D) (sym (filled_within k inner t)) ft,
  λ e. differ (sym (ap member (filled_within k inner s)) ∙ e ∙ ap member (filled_within k inner t)),
)

module _ {L : Type 0} (ranks : List ℕ) (D : L → Type 0) (rules : List (List (Rule L))) where
  -- ---- trees in lists

  sets_map : (ts : List (Tree L)) → sets_of rules (trees_of ts) ≡ map (set_of rules) ts
  sets_map [] = refl
  sets_map (t ∷ ts) = ap (λ qs. set_of rules t ∷ qs) (sets_map ts)

  fits_all : (ts : List (Tree L)) → Each (Fits ranks D) ts → FitsAll ranks D (trees_of ts)
  fits_all [] f = tt
  fits_all (t ∷ ts) f = (f.0, fits_all ts f.1)

  width_of : (ts : List (Tree L)) → width (trees_of ts) ≡ length ts
  width_of [] = refl
  width_of (t ∷ ts) = ap suc (width_of ts)

  trees_with : (qs : List Row) → Each (IsReached ranks D rules) qs → (ts : List (Tree L)) × Each (Fits ranks D) ts × (map (set_of rules) ts ≡ qs)
  trees_with [] h = ([], tt, refl)
  trees_with (q ∷ qs) h =
      let (t, fits, is) = h.0 in
      let (ts, all_fit, are) = trees_with qs h.1 in
      (t ∷ ts, (fits, all_fit), ap₂ (λ x y. x ∷ y) is are)

  -- a node with a tree at place p among others
  module _ (c : ℕ) (low : c < length ranks) (v : L) (d : D v) (ts : List (Tree L)) (fit : Each (Fits ranks D) ts) (wide : length ts ≡ get_or ranks c 0) (p : ℕ) (in_list : p < length ts) where
    abbrev frame : Context L
    frame = around c v (take p ts) hole (drop (suc p) ts)

    frame_is : (t : Tree L) → filled frame t ≡ node c v (trees_of (set ts p t))
    frame_is t = ap (λ us. node c v (trees_of us)) (sym (set_split ts p t in_list))

    frame_fits : (t : Tree L) → Fits ranks D t → Fits ranks D (filled frame t)
    frame_fits t f =
        subst (Fits ranks D) (sym (frame_is t))
        (low, d, width_of (set ts p t) ∙ length-set ts p t ∙ wide, fits_all (set ts p t) (each_set (Fits ranks D) ts p t fit f))

    frame_set : (qs : List Row) → map (set_of rules) ts ≡ qs → (t : Tree L) (q : Row) → set_of rules t ≡ q → set_of rules (filled frame t) ≡ step rules c v (set qs p q)
    frame_set qs are t q is =
        ap (set_of rules) (frame_is t)
        ∙ ap (step rules c v) (sets_map (set ts p t) ∙ map-set (set_of rules) ts p t ∙ ap₂ (λ rs r. set rs p r) are is)

-- ---- sets of the table

module _ {L : Type 0} (D : L → Type 0) (table : KindTable L) (facts : IsKindTable D table) where
  -- a node over known sets has a known set
  pub step_known : (c : ℕ) → c < length table.ranks → (v : L) → Contains (table.values c) v → (qs : List Row) → Each (Contains table.known) qs → length qs ≡ get_or table.ranks c 0 → Contains table.known (step table.rules c v qs)
  step_known c low v given qs are wide =
      let (t, fits, is) = step_reached table.ranks D table.rules c low v (facts.labels c v given) qs wide (each_map (Contains table.known) (IsReached table.ranks D table.rules) facts.reached qs are) in
      subst (Contains table.known) is (facts.complete t fits)

  pub of_kinds_are_known : (c : ℕ) (qs : List Row) → AreOfKinds D table c qs → Each (Contains table.known) qs
  of_kinds_are_known c qs are = each_at (Contains table.known) qs [] (λ j low. facts.of_kinds_known c j (get_or qs j []) (are.1 j low))

  pub sets_known : (ts : Trees L) → FitsAll table.ranks D ts → Each (Contains table.known) (sets_of table.rules ts)
  sets_known no_trees f = tt
  sets_known (tree t ts) f = (facts.complete t f.0, sets_known ts f.1)

  -- the same set in one place of lists of the same kinds
  set_kinds : (c : ℕ) (us qs : List Row) (p : ℕ) (q : Row) → p < length us → OneKinds table.rules c us qs → OneKinds table.rules c (set us p q) (set qs p q)
  set_kinds c us qs p q low same = (
    length-set us p q ∙ same.0 ∙ sym (length-set qs p q),
    λ j within. elim (cases_eq j p) [
      | inl here ↦ (λ t s demanded.
          ap (λ r. has r s) (ap (λ k. get_or (set us p q) k []) here ∙ get_or-set_same us p q [] low ∙ sym (ap (λ k. get_or (set qs p q) k []) here ∙ get_or-set_same qs p q [] (omega (arith, low, same.0)))))
      | inr other ↦ (λ t s demanded.
          ap (λ r. has r s) (get_or-set_other us p j q [] other) ∙ same.1 j (omega (arith, within, length-set us p q)) t s demanded ∙ sym (ap (λ r. has r s) (get_or-set_other qs p j q [] other)))
    ],
  )

  module _ (block : Row → ℕ) where
    -- what no node over one set of each kind tells apart no node over known sets tells apart
    alike_over_known : (q r : Row) → StepsAlike D table block q r → (c : ℕ) → c < length table.ranks → (v : L) → Contains (table.values c) v → (us : List Row) → Each (Contains table.known) us → length us ≡ get_or table.ranks c 0
        → (p : ℕ) → p < length us → block (step table.rules c v (set us p q)) ≡ block (step table.rules c v (set us p r))
    alike_over_known q r alike c low v given us are wide p at =
        let (qs, (long, each)) = choose [] [] (Contains table.known) (λ j u w. Contains (table.of_kinds c j) w × OneKind table.rules c j u w) us (λ j u within in_known. (let (w, one_there, same) = facts.represents c j u in_known in (w, (one_there, same)))) are in
        let same : OneKinds table.rules c us qs = (long, λ j l. (each j l).1) in
        let are_of_kinds : AreOfKinds D table c qs = (sym long ∙ wide, λ j l. (each j (omega (arith, l, long))).0) in
        let over : (w : Row) → step table.rules c v (set us p w) ≡ step table.rules c v (set qs p w) = λ w. step_same_kinds table.rules c v (set us p w) (set qs p w) (set_kinds c us qs p w at same) in
        ap block (over q) ∙ alike c low v given qs are_of_kinds p (omega (arith, at, long)) ∙ sym (ap block (over r))

    module _ (stable : IsStable D table block) (c : ℕ) (low : c < length table.ranks) (v : L) (given : Contains (table.values c) v) where
      one_changed : (front : List Row) (q r : Row) (back : List Row) → Each (Contains table.known) front → Contains table.known q → Contains table.known r → Each (Contains table.known) back → length (front ++ q ∷ back) ≡ get_or table.ranks c 0
          → block q ≡ block r → block (step table.rules c v (front ++ q ∷ back)) ≡ block (step table.rules c v (front ++ r ∷ back))
      one_changed front q r back f at_q at_r b wide e =
          ap (λ us. block (step table.rules c v us)) (sym (set_at front q back q (length front) refl))
          ∙ alike_over_known q r (stable q r at_q at_r e) c low v given (front ++ q ∷ back) (each_behind (Contains table.known) front (q ∷ back) f (at_q, b)) wide (length front) (in_front front q back)
          ∙ ap (λ us. block (step table.rules c v us)) (set_at front q back r (length front) refl)
        where
          in_front : (front : List Row) (q : Row) (back : List Row) → length front < length (front ++ q ∷ back)
          in_front [] q back = omega arith
          in_front (u ∷ front) q back = omega (arith, in_front front q back)

      -- sets of the same blocks give nodes one block
      all_changed : (front us ws : List Row) → Each (Contains table.known) front → Each (Contains table.known) us → Each (Contains table.known) ws → length (front ++ us) ≡ get_or table.ranks c 0 → map block us ≡ map block ws
          → block (step table.rules c v (front ++ us)) ≡ block (step table.rules c v (front ++ ws))
      all_changed front [] [] f a b wide e = refl
      all_changed front [] (w ∷ ws) f a b wide e = absurd (not_empty _ _ e)
      all_changed front (u ∷ us) [] f a b wide e = absurd (not_empty _ _ (sym e))
      all_changed front (u ∷ us) (w ∷ ws) f a b wide e =
          let front' : List Row = front ++ w ∷ [] in
          let here : front' ++ us ≡ front ++ w ∷ us = append_assoc front (w ∷ []) us in
          let there : front' ++ ws ≡ front ++ w ∷ ws = append_assoc front (w ∷ []) ws in
          let long : length (front' ++ us) ≡ get_or table.ranks c 0 = ap length here ∙ same_length front w u us ∙ wide in
          one_changed front u w us f a.0 b.0 a.1 wide (head_same _ _ _ _ e)
          ∙ ap (λ qs. block (step table.rules c v qs)) (sym here)
          ∙ all_changed front' us ws (each_behind (Contains table.known) front (w ∷ []) f (b.0, tt)) a.1 b.1 long (rest_same _ _ _ _ e)
          ∙ ap (λ qs. block (step table.rules c v qs)) there
        where
          same_length : (front : List Row) (w u : Row) (us : List Row) → length (front ++ w ∷ us) ≡ length (front ++ u ∷ us)
          same_length [] w u us = refl
          same_length (x ∷ front) w u us = ap suc (same_length front w u us)

      pub same_blocks : (us ws : List Row) → Each (Contains table.known) us → Each (Contains table.known) ws → length us ≡ get_or table.ranks c 0 → map block us ≡ map block ws → block (step table.rules c v us) ≡ block (step table.rules c v ws)
      same_blocks us ws a b wide e = all_changed [] us ws tt a b wide e

    pub states_are : (ts : Trees L) → states (λ t. block (set_of table.rules t)) ts ≡ map block (sets_of table.rules ts)
    states_are no_trees = refl
    states_are (tree t ts) = ap (λ is. block (set_of table.rules t) ∷ is) (states_are ts)

    -- stable blocks are a machine
    pub blocks_machine : IsStable D table block → (n : ℕ) → ((q : Row) → Contains table.known q → block q < n) → IsMachine table.ranks D n (λ t. block (set_of table.rules t))
    blocks_machine stable n below = record {
      below = λ t f. below (set_of table.rules t) (facts.complete t f);
      by_children = λ c l ts us f g e.
          let (low, is_label, wide, fit) = f in
          let (v, given, agree) = facts.covers c low l is_label in
          let at : (qs : List Row) → step table.rules c l qs ≡ step table.rules c v qs = λ qs. sym (step_agree c l v qs table.rules agree) in
          ap block (at (sets_of table.rules ts))
          ∙ same_blocks stable c low v given (sets_of table.rules ts) (sets_of table.rules us) (sets_known ts fit) (sets_known us g.3) (width_sets table.rules ts ∙ wide) (sym (states_are ts) ∙ e ∙ states_are us)
          ∙ sym (ap block (at (sets_of table.rules us)));
    }

  module _ (final : Row → Bool) where
    abbrev Apart : Row → Row → Type 0
    Apart = RowsApart D table final

    -- sets are told apart where nodes over them are
    -- a node with sets q and r at the place
    module _ (c : ℕ) (low : c < length table.ranks) (v : L) (given : Contains (table.values c) v) (siblings : List Row) (of_kinds : AreOfKinds D table c siblings) (p : ℕ) (at : p < length siblings) where
      all_known : Each (Contains table.known) siblings
      all_known = of_kinds_are_known c siblings of_kinds

      known_at : (u : Row) → Contains table.known u → Contains table.known (step table.rules c v (set siblings p u))
      known_at u h = step_known c low v given (set siblings p u) (each_set (Contains table.known) siblings p u all_known h) (length-set siblings p u ∙ of_kinds.0)

      apart_at : (q r : Row) → Apart (step table.rules c v (set siblings p q)) (step table.rules c v (set siblings p r)) → Apart q r
      apart_at q r apart s t fs ft is_s is_t =
          let d : D v = facts.labels c v given in
          let (ts, fit, sets) = trees_with table.ranks D table.rules siblings (each_map (Contains table.known) (IsReached table.ranks D table.rules) facts.reached siblings all_known) in
          let long : length ts ≡ length siblings = sym (length-map ts (set_of table.rules)) ∙ ap length sets in
          let wide : length ts ≡ get_or table.ranks c 0 = long ∙ of_kinds.0 in
          let in_ts : p < length ts = omega (arith, long, at) in
          let inner : Context L = frame table.ranks D table.rules c low v d ts fit wide p in_ts in
          let fits : (u : Tree L) → Fits table.ranks D u → Fits table.ranks D (filled inner u) = frame_fits table.ranks D table.rules c low v d ts fit wide p in_ts in
          let is : (u : Tree L) (w : Row) → set_of table.rules u ≡ w → set_of table.rules (filled inner u) ≡ step table.rules c v (set siblings p w) = frame_set table.ranks D table.rules c low v d ts fit wide p in_ts siblings sets in
          told_inside table.ranks D (member_of D table final) inner s t (apart (filled inner s) (filled inner t) (fits s fs) (fits t ft) (is s q is_s) (is t r is_t))

    apart_below : (block : Row → ℕ) → AreBlocks D table final block → (q r : Row) → Contains table.known q → Contains table.known r → StepsApart D table block q r → Apart q r
    apart_below block are q r at_q at_r x =
        let known : (u : Row) → Contains table.known u → Contains table.known (step table.rules x.constructor x.label (set x.siblings x.place u)) = known_at x.constructor x.low x.label x.given x.siblings x.are_of_kinds x.place x.within in
        apart_at x.constructor x.low x.label x.given x.siblings x.are_of_kinds x.place x.within q r (are.separated _ _ (known q at_q) (known r at_r) x.differ)

    -- ---- what a loop needs: the first blocks, one round, the end

    -- sets that are final alike are one block
    pub first_blocks : (block : Row → ℕ) → ((q r : Row) → Contains table.known q → Contains table.known r → block q ≡ block r → final q ≡ final r) → ((q r : Row) → Contains table.known q → Contains table.known r → ¬ (block q ≡ block r) → ¬ (final q ≡ final r))
        → AreBlocks D table final block
    first_blocks block alike apart = record {
      final_alike = alike;
      separated = λ q r at_q at_r other s t fs ft is_s is_t. (hole, fs, ft, λ e. apart q r at_q at_r other (sym (ap final is_s) ∙ e ∙ ap final is_t));
    }

    pub next_blocks : (block finer : Row → ℕ) → AreBlocks D table final block → IsRound D table block finer → AreBlocks D table final finer
    next_blocks block finer are round = record {
      final_alike = λ q r at_q at_r e. are.final_alike q r at_q at_r (round.alike q r at_q at_r e).0;
      separated = λ q r at_q at_r other. elim (round.apart q r at_q at_r other) [
        | inl old ↦ are.separated q r at_q at_r old
        | inr new ↦ apart_below block are q r at_q at_r new
      ];
    }

    pub last_blocks : (block finer : Row → ℕ) → IsRound D table block finer → ((q r : Row) → Contains table.known q → Contains table.known r → block q ≡ block r → finer q ≡ finer r) → IsStable D table block
    last_blocks block finer round same q r at_q at_r e = (round.alike q r at_q at_r (same q r at_q at_r e)).1

    -- stable blocks are the least machine of the language
    pub blocks_least : (block : Row → ℕ) (n : ℕ) (one_of : ℕ → Row) (accepting : ℕ → Bool) → AreBlocks D table final block → IsStable D table block → AreNumbered D table final n one_of accepting block
        → IsLeastMachine table.ranks D (member_of D table final) n (λ t. block (set_of table.rules t)) accepting
    blocks_least block n one_of accepting are stable numbered = record {
      machine = blocks_machine block stable n numbered.below;
      language = λ t f. numbered.finals (set_of table.rules t) (facts.complete t f);
      inhabited = λ i low.
          let (t, fits, set_is) = facts.reached (one_of i) (numbered.known_one i low) in
          (t, fits, ap block set_is ∙ numbered.is_one i low);
      apart = λ s t fs ft other. are.separated (set_of table.rules s) (set_of table.rules t) (facts.complete s fs) (facts.complete t ft) other s t fs ft refl refl;
    }
