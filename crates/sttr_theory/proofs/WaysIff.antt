-- The lists of ways hold exactly the runs.
use Rattle.std.specs.Prelude.{⊤}
use Rattle.std.proofs.Common.{ℕ, zero, suc, ◌≡◌, ◌⊎◌, ◌<◌, ◌↔◌, ◌==◌, cond, Bool, true, false, List, [], ◌∷◌, ◌++◌, map, get_or, Some, None, refl, inl, inr, arith}
use Rattle.std.proofs.lemmas.Bool.{or_left, or_right}
use Rattle.model_tree.specs.Tree.{Tree, node, Trees, no_trees, tree}
use Rattle.model_sta.specs.Automaton.{Rule, rules_of}
use Rattle.model_sttr.specs.Terms.{Term, on, build, Parts, no_parts, part, Uses, UsesIn, IsInstance, AreInstances}
use Rattle.model_sttr.specs.Transducer.{Head, identity, run, OutRule, Sttr, out_rules}
use Rattle.sttr_theory.specs.Lists.{pairs, alone, once}
use Rattle.sttr_theory.specs.Triples.{Triple}
use Rattle.sttr_theory.specs.Ways.{WayOf, plain, leaf_ways, joined, guarded, with_term, first_of, second_of, Pick, pick, picks_of, fires, size, uses, uses_in, over_term, over_parts, free_ways, rest_ways, rule_ways, step_ways, gives_ways, gives_at}
use Rattle.sttr_theory.proofs.Accept.{Fires, or_split, same_number, number_same}
use Rattle.sttr_theory.proofs.Runs.{Aim, free, gives, Picks, merged, copy, Step, Run, RunAt}
use Rattle.sttr_theory.proofs.OneOf.{OneOf, to_and_fro, and_iff, member, of_member, flat_iff, map_iff, fixed_iff, pairs_iff, EachAt, merge_iff, alone_out, alone_in}

pub fires_iff : {L : Type 0} (r : Rule L) (c : ℕ) (l : L) → (fires r c l ≡ true) ↔ Fires r c l
fires_iff r c l = (
  λ e. let (a, b) = (and_iff (r.constructor == c) (r.guard l)).0 e in (same_number r.constructor c a, b),
  λ f. (and_iff (r.constructor == c) (r.guard l)).1 (number_same r.constructor c f.0, f.1),
)

module _ {L : Type 0} where
  mutual
    pub uses_out : (j : ℕ) (p : Term Head (L → L)) → uses j p ≡ true → Uses j p
    uses_out j (on h k) e = same_number k j e
    uses_out j (build c m ps) e = uses_in_out j ps e

    pub uses_in_out : (j : ℕ) (ps : Parts Head (L → L)) → uses_in j ps ≡ true → UsesIn j ps
    uses_in_out j no_parts e = cc
    uses_in_out j (part p ps) e = or_split (uses j p) (uses_in j ps) (λ x. inl (uses_out j p x)) (λ x. inr (uses_in_out j ps x)) e

  mutual
    pub uses_back : (j : ℕ) (p : Term Head (L → L)) → Uses j p → uses j p ≡ true
    uses_back j (on h k) e = number_same k j e
    uses_back j (build c m ps) e = uses_in_back j ps e

    pub uses_in_back : (j : ℕ) (ps : Parts Head (L → L)) → UsesIn j ps → uses_in j ps ≡ true
    uses_in_back j no_parts e = absurd e
    uses_in_back j (part p ps) (inl e) = or_left (uses j p) (uses_in j ps) (uses_back j p e)
    uses_in_back j (part p ps) (inr e) = or_right (uses j p) (uses_in j ps) (uses_in_back j ps e)

module _ {L : Type 0} (A : List (List (Rule L))) (c : ℕ) (l : L) where
  -- the picks with one more rule
  abbrev Picked : (Z : List ℕ) → ((ℕ → List ℕ) → Type 0) → Rule L → Type 0
  Picked Z P r = OneOf (λ x. (x.guard l ≡ true) × ((fires r c l ≡ true) × P (λ j. get_or r.demands j [] ++ x.wants j))) (picks_of A c Z)

  picked_iff : (s : ℕ) (Z : List ℕ) (P : (ℕ → List ℕ) → Type 0) → OneOf (λ x. (x.guard l ≡ true) × P x.wants) (picks_of A c (s ∷ Z)) ↔ OneOf (Picked Z P) (rules_of A s)
  picked_iff s Z P =
      flat_iff (λ x. (x.guard l ≡ true) × P x.wants) (Picked Z P) (λ r. map (pick c r) (picks_of A c Z))
      (λ r. map_iff (λ x. (x.guard l ≡ true) × P x.wants) (λ x. (x.guard l ≡ true) × ((fires r c l ≡ true) × P (λ j. get_or r.demands j [] ++ x.wants j))) (pick c r)
      (λ x. (λ a. let (u, v) = (and_iff (fires r c l) (x.guard l)).0 a.0 in (v, (u, a.1)), λ b. ((and_iff (fires r c l) (x.guard l)).1 (b.1.0, b.0), b.1.1))) (picks_of A c Z))
      (rules_of A s)

  -- the picks are the rules that can be picked
  pub picks_out : (Z : List ℕ) (P : (ℕ → List ℕ) → Type 0) → OneOf (λ x. (x.guard l ≡ true) × P x.wants) (picks_of A c Z) → (rs : List (Rule L)) × Picks A c l Z rs × P (merged rs)
  picks_out [] P (inl a) = ([], tt, a.1)
  picks_out [] P (inr o) = absurd o
  picks_out (s ∷ Z) P o =
      let (r, here, o') = member (Picked Z P) (rules_of A s) ((picked_iff s Z P).0 o) in
      let (rs, ps, (f, p)) = picks_out Z (λ W. (fires r c l ≡ true) × P (λ j. get_or r.demands j [] ++ W j)) o' in
      (r ∷ rs, (here, (fires_iff r c l).0 f, ps), p)

  pub picks_in : (Z : List ℕ) (P : (ℕ → List ℕ) → Type 0) (rs : List (Rule L)) → Picks A c l Z rs → P (merged rs) → OneOf (λ x. (x.guard l ≡ true) × P x.wants) (picks_of A c Z)
  picks_in [] P [] ps p = inl (refl, p)
  picks_in [] P (r ∷ rs) ps p = absurd ps
  picks_in (s ∷ Z) P [] ps p = absurd ps
  picks_in (s ∷ Z) P (r ∷ rs) ps p =
      (picked_iff s Z P).1 (of_member (Picked Z P) (rules_of A s) r ps.0 (picks_in Z (λ W. (fires r c l ≡ true) × P (λ j. get_or r.demands j [] ++ W j)) rs ps.2 ((fires_iff r c l).1 ps.1, p)))

  pub picks_iff : (Z : List ℕ) (P : (ℕ → List ℕ) → Type 0) → OneOf (λ x. (x.guard l ≡ true) × P x.wants) (picks_of A c Z) ↔ ((rs : List (Rule L)) × Picks A c l Z rs × P (merged rs))
  picks_iff Z P = (picks_out Z P, λ x. let (rs, ps, p) = x in picks_in Z P rs ps p)

-- M says what is met at a child, and G what a triple gives on it
module _ {L : Type 0} (T : Sttr L) (D : Head → List ℕ → Aim L → ℕ → Type 0) (M : ℕ → Triple → Type 0) (G : Triple → ℕ → Tree L → Type 0) (l : L)
    (met : (h : Head) (Z : List ℕ) (j : ℕ) → M j (record { first = h; all = Z; second = None }) ↔ D h Z free j)
    (given : (h : Head) (Z : List ℕ) (k : Head) (j : ℕ) (w : Tree L) → G (record { first = h; all = Z; second = Some k }) j w ↔ D h Z (gives k w) j)
    (same : (Z : List ℕ) (j : ℕ) (k : Head) (w : Tree L) → (D identity Z free j × D identity [] (gives k w) j) ↔ D identity Z (gives k w) j) where
  -- the way works, and its term does
  abbrev pub WorksBy : {X : Type 0} → (X → Type 0) → WayOf L X → Type 0
  WorksBy P y = (y.guard l ≡ true) × EachAt M y.demands × P y.term

  abbrev pub TermGives : Tree L → Term Triple (L → L) → Type 0
  TermGives w t = IsInstance G l t w

  abbrev pub PartsGive : Trees L → Parts Triple (L → L) → Type 0
  PartsGive ws ts = AreInstances G l ts ws

  joined_iff : {X Y Z : Type 0} (P : X → Type 0) (Q : Y → Type 0) (R : Z → Type 0) (f : X → Y → Z) → ((x : X) (y : Y) → R (f x y) ↔ (P x × Q y)) → (x : WayOf L X) (y : WayOf L Y) → WorksBy R (joined f x y) ↔ (WorksBy P x × WorksBy Q y)
  joined_iff P Q R f g x y = (
    λ a. let (gx, gy) = (and_iff (x.guard l) (y.guard l)).0 a.0 in
        let (dx, dy) = (merge_iff M x.demands y.demands).0 a.1 in
        let (p, q) = (g x.term y.term).0 a.2 in
        ((gx, dx, p), (gy, dy, q)),
    λ b. ((and_iff (x.guard l) (y.guard l)).1 (b.0.0, b.1.0), (merge_iff M x.demands y.demands).1 (b.0.1, b.1.1), (g x.term y.term).1 (b.0.2, b.1.2)),
  )

  pairs_work : {X Y Z : Type 0} (P : X → Type 0) (Q : Y → Type 0) (R : Z → Type 0) (f : X → Y → Z) → ((x : X) (y : Y) → R (f x y) ↔ (P x × Q y)) → (xs : List (WayOf L X)) (ys : List (WayOf L Y)) → OneOf (WorksBy R) (pairs (joined f) xs ys) ↔ (OneOf (WorksBy P) xs × OneOf (WorksBy Q) ys)
  pairs_work P Q R f g xs ys = pairs_iff (WorksBy P) (WorksBy Q) (WorksBy R) (joined f) (joined_iff P Q R f g) xs ys

  guarded_iff : {X : Type 0} (P : X → Type 0) (g : L → Bool) (xs : List (WayOf L X)) → OneOf (WorksBy P) (map (guarded g) xs) ↔ ((g l ≡ true) × OneOf (WorksBy P) xs)
  guarded_iff P g xs =
      to_and_fro (OneOf (WorksBy P) (map (guarded g) xs)) (OneOf (λ y. (g l ≡ true) × WorksBy P y) xs) ((g l ≡ true) × OneOf (WorksBy P) xs)
      (map_iff (WorksBy P) (λ y. (g l ≡ true) × WorksBy P y) (guarded g)
      (λ y. (λ a. let (u, v) = (and_iff (g l) (y.guard l)).0 a.0 in (u, (v, a.1, a.2)), λ b. ((and_iff (g l) (y.guard l)).1 (b.0, b.1.0), b.1.1, b.1.2))) xs)
      (fixed_iff (g l ≡ true) (WorksBy P) xs)

  abbrev pub Nothing : ⊤ → Type 0
  Nothing x = ⊤

  mutual
    pub free_iff : (p : Term Head (L → L)) (Z : List ℕ) → OneOf (WorksBy Nothing) (free_ways T p Z) ↔ Run T D l p Z free
    free_iff (on h j) Z = (
      λ o. one o,
      λ r. inl (refl, alone_in M j (record { first = h; all = Z; second = None }) ((met h Z j).1 r), tt),
    )
      where
        one : OneOf (WorksBy Nothing) (free_ways T (on h j) Z) → D h Z free j
        one (inl a) = (met h Z j).0 (alone_out M j (record { first = h; all = Z; second = None }) a.1)
        one (inr o) = absurd o
    free_iff (build c m ps) Z =
        to_and_fro (OneOf (WorksBy Nothing) (free_ways T (build c m ps) Z)) (OneOf (λ x. (x.guard (m l) ≡ true) × Unused x.wants) (picks_of T.looks c (once Z))) (Run T D l (build c m ps) Z free)
        (flat_iff (WorksBy Nothing) (λ x. (x.guard (m l) ≡ true) × Unused x.wants) (λ x. map (guarded (λ l. x.guard (m l))) (rest_ways T (λ j. false) ps x.wants))
        (λ x. at_pick x (rest_iff (λ j. false) ps x.wants)) (picks_of T.looks c (once Z)))
        (picks_iff T.looks c (m l) (once Z) Unused)
      where
        Unused : (ℕ → List ℕ) → Type 0
        Unused W = (j : ℕ) → j < size ps → RunAt T D l j ps (W j) free

        none : {B : Type 0} → (false ≡ true) ⊎ B → B
        none (inl e) = cc
        none (inr b) = b

        at_pick : (x : Pick L) → OneOf (WorksBy Nothing) (rest_ways T (λ j. false) ps x.wants) ↔ ((j : ℕ) → j < size ps → (false ≡ true) ⊎ RunAt T D l j ps (x.wants j) free)
            → OneOf (WorksBy Nothing) (map (guarded (λ l. x.guard (m l))) (rest_ways T (λ j. false) ps x.wants)) ↔ ((x.guard (m l) ≡ true) × Unused x.wants)
        at_pick x rest = (
          λ o. let (g, o') = (guarded_iff Nothing (λ l. x.guard (m l)) (rest_ways T (λ j. false) ps x.wants)).0 o in (g, λ j lt. none (rest.0 o' j lt)),
          λ a. (guarded_iff Nothing (λ l. x.guard (m l)) (rest_ways T (λ j. false) ps x.wants)).1 (a.0, rest.1 (λ j lt. inr (a.1 j lt))),
        )

    pub rest_iff : (U : ℕ → Bool) (ps : Parts Head (L → L)) (E : ℕ → List ℕ) → OneOf (WorksBy Nothing) (rest_ways T U ps E) ↔ ((j : ℕ) → j < size ps → (U j ≡ true) ⊎ RunAt T D l j ps (E j) free)
    rest_iff U no_parts E = (λ o j lt. absurd (omega (arith, lt)), λ f. inl (refl, λ j. tt, tt))
    rest_iff U (part p ps) E =
        to_and_fro (OneOf (WorksBy Nothing) (rest_ways T U (part p ps) E)) (OneOf (WorksBy Nothing) (first (U 0)) × OneOf (WorksBy Nothing) rest) ((j : ℕ) → j < size (part p ps) → (U j ≡ true) ⊎ RunAt T D l j (part p ps) (E j) free)
        (pairs_work Nothing Nothing Nothing first_of (λ x y. (λ a. (tt, tt), λ b. tt)) (first (U 0)) rest)
        (both (free_iff p (E 0)) (rest_iff (λ j. U (suc j)) ps (λ j. E (suc j))))
      where
        first : Bool → List (WayOf L ⊤)
        first b = cond b (plain tt ∷ []) (free_ways T p (E 0))

        rest : List (WayOf L ⊤)
        rest = rest_ways T (λ j. U (suc j)) ps (λ j. E (suc j))

        first_iff : OneOf (WorksBy Nothing) (free_ways T p (E 0)) ↔ Run T D l p (E 0) free → (b : Bool) → OneOf (WorksBy Nothing) (first b) ↔ ((b ≡ true) ⊎ Run T D l p (E 0) free)
        first_iff ih true = (λ o. inl refl, λ x. inl (refl, λ j. tt, tt))
        first_iff ih false = (λ o. inr (ih.0 o), λ x. back x)
          where
            back : (false ≡ true) ⊎ Run T D l p (E 0) free → OneOf (WorksBy Nothing) (free_ways T p (E 0))
            back (inl e) = cc
            back (inr r) = ih.1 r

        both : OneOf (WorksBy Nothing) (free_ways T p (E 0)) ↔ Run T D l p (E 0) free → OneOf (WorksBy Nothing) rest ↔ ((j : ℕ) → j < size ps → (U (suc j) ≡ true) ⊎ RunAt T D l j ps (E (suc j)) free)
            → (OneOf (WorksBy Nothing) (first (U 0)) × OneOf (WorksBy Nothing) rest) ↔ ((j : ℕ) → j < size (part p ps) → (U j ≡ true) ⊎ RunAt T D l j (part p ps) (E j) free)
        both ih later = (λ a. out a, λ f. ((first_iff ih (U 0)).1 (f 0 (omega arith)), later.1 (λ j lt. f (suc j) (omega (arith, lt)))))
          where
            out : OneOf (WorksBy Nothing) (first (U 0)) × OneOf (WorksBy Nothing) rest → (j : ℕ) → j < size (part p ps) → (U j ≡ true) ⊎ RunAt T D l j (part p ps) (E j) free
            out a zero lt = (first_iff ih (U 0)).0 a.0
            out a (suc j) lt = later.0 a.1 j (omega (arith, lt))

  module _ (m : L → L) (Os : Head → ℕ → List (WayOf L (Term Triple (L → L)))) (O : Head → ℕ → Tree L → Type 0) (each : (h : Head) (j : ℕ) (v : Tree L) → OneOf (WorksBy (TermGives v)) (Os h j) ↔ O h j v) where
    mutual
      pub over_iff : (p : Term Head (L → L)) (w : Tree L) → OneOf (WorksBy (TermGives w)) (over_term m Os p) ↔ IsInstance O (m l) p w
      over_iff (on h j) w = each h j w
      over_iff (build c n qs) (node d k ws) =
          to_and_fro (OneOf (WorksBy (TermGives (node d k ws))) (over_term m Os (build c n qs))) (OneOf (λ y. ((c ≡ d) × (n (m l) ≡ k)) × WorksBy (PartsGive ws) y) (over_parts m Os qs)) (IsInstance O (m l) (build c n qs) (node d k ws))
          (map_iff (WorksBy (TermGives (node d k ws))) (λ y. ((c ≡ d) × (n (m l) ≡ k)) × WorksBy (PartsGive ws) y) (with_term (build c (λ l. n (m l))))
          (λ y. (λ a. ((a.2.0, a.2.1), (a.0, a.1, a.2.2)), λ b. (b.1.0, b.1.1, (b.0.0, b.0.1, b.1.2)))) (over_parts m Os qs))
          (fixed (overs_iff qs ws))
        where
          fixed : OneOf (WorksBy (PartsGive ws)) (over_parts m Os qs) ↔ AreInstances O (m l) qs ws → OneOf (λ y. ((c ≡ d) × (n (m l) ≡ k)) × WorksBy (PartsGive ws) y) (over_parts m Os qs) ↔ IsInstance O (m l) (build c n qs) (node d k ws)
          fixed ih = (
            λ o. let ((e1, e2), o') = (fixed_iff ((c ≡ d) × (n (m l) ≡ k)) (WorksBy (PartsGive ws)) (over_parts m Os qs)).0 o in (e1, e2, ih.0 o'),
            λ i. (fixed_iff ((c ≡ d) × (n (m l) ≡ k)) (WorksBy (PartsGive ws)) (over_parts m Os qs)).1 ((i.0, i.1), ih.1 i.2),
          )

      pub overs_iff : (qs : Parts Head (L → L)) (ws : Trees L) → OneOf (WorksBy (PartsGive ws)) (over_parts m Os qs) ↔ AreInstances O (m l) qs ws
      overs_iff no_parts no_trees = (λ o. tt, λ i. inl (refl, λ j. tt, tt))
      overs_iff no_parts (tree w ws) = (λ o. none o, λ i. absurd i)
        where
          none : OneOf (WorksBy (PartsGive (tree w ws))) (over_parts m Os no_parts) → ⊥
          none (inl a) = a.2
          none (inr o) = o
      overs_iff (part q qs) no_trees = (λ o. none ((pairs_work (λ t. ⊥) (λ ts. ⊤) (PartsGive no_trees) part (λ x y. (λ a. absurd a, λ b. absurd b.0)) (over_term m Os q) (over_parts m Os qs)).0 o).0, λ i. absurd i)
        where
          none : OneOf (WorksBy (λ t. ⊥)) (over_term m Os q) → ⊥
          none o = let (y, here, works) = member (WorksBy (λ t. ⊥)) (over_term m Os q) o in works.2
      overs_iff (part q qs) (tree w ws) =
          to_and_fro (OneOf (WorksBy (PartsGive (tree w ws))) (over_parts m Os (part q qs))) (OneOf (WorksBy (TermGives w)) (over_term m Os q) × OneOf (WorksBy (PartsGive ws)) (over_parts m Os qs)) (AreInstances O (m l) (part q qs) (tree w ws))
          (pairs_work (TermGives w) (PartsGive ws) (PartsGive (tree w ws)) part (λ x y. (λ a. a, λ b. b)) (over_term m Os q) (over_parts m Os qs))
          (both (over_iff q w) (overs_iff qs ws))
        where
          both : {A B C D : Type 0} → A ↔ B → C ↔ D → (A × C) ↔ (B × D)
          both f g = (λ a. (f.0 a.0, g.0 a.1), λ b. (f.1 b.0, g.1 b.1))

  module _ (c : ℕ) (m : L → L) (Os : ℕ → List ℕ → Head → List (WayOf L (Term Triple (L → L)))) (ps : Parts Head (L → L)) (each : (j : ℕ) (Z : List ℕ) (h : Head) (v : Tree L) → OneOf (WorksBy (TermGives v)) (Os j Z h) ↔ RunAt T D l j ps Z (gives h v)) (E : ℕ → List ℕ) where
    -- what is demanded once a rule is used
    abbrev More : OutRule L → ℕ → List ℕ
    More r j = E j ++ get_or r.rule.demands j []

    abbrev AtRule : Tree L → OutRule L → Type 0
    AtRule w r =
        Fires r.rule c (m l) × ((j : ℕ) → j < size ps → Uses j r.term ⊎ RunAt T D l j ps (More r j) free) × IsInstance (λ h j v. RunAt T D l j ps (More r j) (gives h v)) (m l) r.term w

    unused_iff : (p : Term Head (L → L)) (j : ℕ) (B : Type 0) → ((uses j p ≡ true) ⊎ B) ↔ (Uses j p ⊎ B)
    unused_iff p j B = (to, fro)
      where
        to : (uses j p ≡ true) ⊎ B → Uses j p ⊎ B
        to (inl e) = inl (uses_out j p e)
        to (inr b) = inr b

        fro : Uses j p ⊎ B → (uses j p ≡ true) ⊎ B
        fro (inl u) = inl (uses_back j p u)
        fro (inr b) = inr b

    rule_iff : (w : Tree L) (r : OutRule L) → OneOf (WorksBy (TermGives w)) (rule_ways T c m Os ps E r) ↔ AtRule w r
    rule_iff w r = (
      λ o. let (f, o') = (guarded_iff (TermGives w) (λ l. fires r.rule c (m l)) inner).0 o in
          let (o1, o2) = inner_iff.0 o' in
          ((fires_iff r.rule c (m l)).0 f, (λ j lt. (unused_iff r.term j (RunAt T D l j ps (More r j) free)).0 (rests.0 o1 j lt)), overs.0 o2),
      λ a. (guarded_iff (TermGives w) (λ l. fires r.rule c (m l)) inner).1
          ((fires_iff r.rule c (m l)).1 a.0, inner_iff.1 (rests.1 (λ j lt. (unused_iff r.term j (RunAt T D l j ps (More r j) free)).1 (a.1 j lt)), overs.1 a.2)),
    )
      where
        rest : List (WayOf L ⊤)
        rest = rest_ways T (λ j. uses j r.term) ps (More r)

        over : List (WayOf L (Term Triple (L → L)))
        over = over_term m (λ h j. Os j (More r j) h) r.term

        inner : List (WayOf L (Term Triple (L → L)))
        inner = pairs (joined second_of) rest over

        inner_iff : OneOf (WorksBy (TermGives w)) inner ↔ (OneOf (WorksBy Nothing) rest × OneOf (WorksBy (TermGives w)) over)
        inner_iff = pairs_work Nothing (TermGives w) (TermGives w) second_of (λ x y. (λ a. (tt, a), λ b. b.1)) rest over

        rests : OneOf (WorksBy Nothing) rest ↔ ((j : ℕ) → j < size ps → (uses j r.term ≡ true) ⊎ RunAt T D l j ps (More r j) free)
        rests = rest_iff (λ j. uses j r.term) ps (More r)

        overs : OneOf (WorksBy (TermGives w)) over ↔ IsInstance (λ h j v. RunAt T D l j ps (More r j) (gives h v)) (m l) r.term w
        overs = over_iff m (λ h j. Os j (More r j) h) (λ h j v. RunAt T D l j ps (More r j) (gives h v)) (λ h j v. each j (More r j) h v) r.term w

    pub step_iff : (k : Head) (w : Tree L) → OneOf (WorksBy (TermGives w)) (step_ways T c m Os ps E k) ↔ Step T c (m l) (λ j Z a. RunAt T D l j ps Z a) (size ps) E (gives k w)
    step_iff identity w = over_iff m (λ h j. Os j (E j) h) (λ h j v. RunAt T D l j ps (E j) (gives h v)) (λ h j v. each j (E j) h v) (copy c (size ps)) w
    step_iff (run q) w =
        to_and_fro (OneOf (WorksBy (TermGives w)) (step_ways T c m Os ps E (run q))) (OneOf (AtRule w) (out_rules T q)) (Step T c (m l) (λ j Z a. RunAt T D l j ps Z a) (size ps) E (gives (run q) w))
        (flat_iff (WorksBy (TermGives w)) (AtRule w) (rule_ways T c m Os ps E) (rule_iff w) (out_rules T q))
        (λ o. let (r, here, (f, rest, i)) = member (AtRule w) (out_rules T q) o in (r, here, f, rest, i), λ s. let (r, here, f, rest, i) = s in of_member (AtRule w) (out_rules T q) r here (f, rest, i))

  single_iff : {X : Type 0} (P : X → Type 0) (y : WayOf L X) → OneOf (WorksBy P) (y ∷ []) ↔ WorksBy P y
  single_iff {X} P y = (λ o. one o, λ x. inl x)
    where
      one : OneOf (WorksBy P) (y ∷ []) → WorksBy P y
      one (inl x) = x
      one (inr o) = absurd o

  leaf_iff : (h : Head) (j : ℕ) (Z : List ℕ) (k : Head) (w : Tree L) → OneOf (WorksBy (TermGives w)) (leaf_ways h j k Z) ↔ D h Z (gives k w) j
  leaf_iff identity j Z k w =
      let one = single_iff (TermGives w) (record { guard = λ l. true; demands = alone j (record { first = identity; all = Z; second = None }); term = on (record { first = identity; all = []; second = Some k }) j }) in (
        λ o. let (g, asks, t) = one.0 o in (same Z j k w).0 ((met identity Z j).0 (alone_out M j (record { first = identity; all = Z; second = None }) asks), (given identity [] k j w).0 t),
        λ r. let (a, b) = (same Z j k w).1 r in one.1 (refl, alone_in M j (record { first = identity; all = Z; second = None }) ((met identity Z j).1 a), (given identity [] k j w).1 b),
      )
  leaf_iff (run q) j Z k w =
      let one = single_iff (TermGives w) (plain (on (record { first = run q; all = Z; second = Some k }) j)) in
      (λ o. (given (run q) Z k j w).0 ((one.0 o).2), λ r. one.1 (refl, λ i. tt, (given (run q) Z k j w).1 r))

  mutual
    -- the list has a way that works exactly where there is a run
    pub gives_iff : (p : Term Head (L → L)) (Z : List ℕ) (k : Head) (w : Tree L) → OneOf (WorksBy (TermGives w)) (gives_ways T p Z k) ↔ Run T D l p Z (gives k w)
    gives_iff (on h j) Z k w = leaf_iff h j Z k w
    gives_iff (build c m ps) Z k w =
        to_and_fro (OneOf (WorksBy (TermGives w)) (gives_ways T (build c m ps) Z k)) (OneOf (λ x. (x.guard (m l) ≡ true) × AtStep x.wants) (picks_of T.looks c (once Z))) (Run T D l (build c m ps) Z (gives k w))
        (flat_iff (WorksBy (TermGives w)) (λ x. (x.guard (m l) ≡ true) × AtStep x.wants) (λ x. map (guarded (λ l. x.guard (m l))) (steps x.wants)) (λ x. at_pick x (step_iff c m Os ps (λ j Z' h v. gives_at_iff ps j Z' h v) x.wants k w)) (picks_of T.looks c (once Z)))
        (picks_iff T.looks c (m l) (once Z) AtStep)
      where
        Os : ℕ → List ℕ → Head → List (WayOf L (Term Triple (L → L)))
        Os j Z' h = gives_at T j ps Z' h

        steps : (ℕ → List ℕ) → List (WayOf L (Term Triple (L → L)))
        steps W = step_ways T c m Os ps W k

        AtStep : (ℕ → List ℕ) → Type 0
        AtStep W = Step T c (m l) (λ j Z' a. RunAt T D l j ps Z' a) (size ps) W (gives k w)

        at_pick : (x : Pick L) → OneOf (WorksBy (TermGives w)) (steps x.wants) ↔ AtStep x.wants → OneOf (WorksBy (TermGives w)) (map (guarded (λ l. x.guard (m l))) (steps x.wants)) ↔ ((x.guard (m l) ≡ true) × AtStep x.wants)
        at_pick x ih = (
          λ o. let (g, o') = (guarded_iff (TermGives w) (λ l. x.guard (m l)) (steps x.wants)).0 o in (g, ih.0 o'),
          λ a. (guarded_iff (TermGives w) (λ l. x.guard (m l)) (steps x.wants)).1 (a.0, ih.1 a.1),
        )

    pub gives_at_iff : (ps : Parts Head (L → L)) (j : ℕ) (Z : List ℕ) (k : Head) (w : Tree L) → OneOf (WorksBy (TermGives w)) (gives_at T j ps Z k) ↔ RunAt T D l j ps Z (gives k w)
    gives_at_iff no_parts j Z k w = (λ o. o, λ r. r)
    gives_at_iff (part p ps) zero Z k w = gives_iff p Z k w
    gives_at_iff (part p ps) (suc j) Z k w = gives_at_iff ps j Z k w
