-- Drafts that cover lists of ways, as both are made.
use Rattle.std.proofs.Common.{ℕ, ◌≡◌, ◌⊎◌, inl, inr, Bool, true, false, ◌&&◌, List, [], ◌∷◌, ◌++◌, map, get_or, Contains, refl, sym, subst, ap, ap₂, ◌∙◌}
use Rattle.std.proofs.lemmas.Bool.{and_parts, and_from}
use Rattle.std.proofs.lemmas.List.{map-append}
use Rattle.model_tree.specs.Label.{Label}
use Rattle.model_tree.specs.Formula.{Formula, formula_holds}
use Rattle.model_sttr.specs.Terms.{Term, on, build, Parts, no_parts, part, with_maps, parts_with_maps, StandsFor, StandFor}
use Rattle.sttr_theory.specs.Triples.{Triple, LookName, asked}
use Rattle.sttr_theory.specs.Alike.{SameName, SameTriple}
use Rattle.sttr_theory.specs.Lists.{pairs, merge}
use Rattle.sttr_theory.specs.Ways.{WayOf, joined}
use Rattle.sttr_theory.proofs.OneOf.{merge_at}
use Rattle.sttr_theory.proofs.Members.{in_either, in_left, in_right, to_mapped, of_mapped, to_flat, of_flat}
use Rattle.sttr_theory.proofs.AlikeWays.{asked_append}
use Rattle.sttr_run.specs.Drafts.{FollowsFrom, IsFreer, IsAskedIn, Asks, parts_of, list_of, IsCopy, AreCopies, AllCopies, all_say, AllStand, guards_of, terms_of, terms_at, IsBoth, AreProducts, NeverHolds, SaysSame, SaysLess, Covers}
use Rattle.sttr_run.specs.declared.drafts.Demand.{Demand}
use Rattle.sttr_run.specs.declared.drafts.Draft.{Draft}

-- ---- truth values

false_left : (a b : Bool) → a ≡ false → (a && b) ≡ false
false_left true b h = cc
false_left false b h = refl

false_right : (a b : Bool) → b ≡ false → (a && b) ≡ false
false_right true b h = h
false_right false b h = refl

pub and_false : (a b : Bool) → (a ≡ false) ⊎ (b ≡ false) → (a && b) ≡ false
and_false a b (inl h) = false_left a b h
and_false a b (inr h) = false_right a b h

pub and_assoc : (a b c : Bool) → ((a && b) && c) ≡ (a && (b && c))
and_assoc true b c = refl
and_assoc false b c = refl

module _ {A : Type 0} (holds : A → Label → Bool) where
  pub all_say_both : (fs gs : List (Formula A)) (l : Label) → all_say holds (fs ++ gs) l ≡ (all_say holds fs l && all_say holds gs l)
  all_say_both [] gs l = refl
  all_say_both (f ∷ fs) gs l = ap (λ b. formula_holds (λ a. holds a l) f && b) (all_say_both fs gs l) ∙ sym (and_assoc (formula_holds (λ a. holds a l) f) (all_say holds fs l) (all_say holds gs l))

-- ---- names that are asked

pub asked_merge : (ds es : List (List Triple)) (j : ℕ) → asked (get_or (merge ds es) j []) ≡ asked (get_or ds j []) ++ asked (get_or es j [])
asked_merge ds es j = ap asked (merge_at ds es j) ∙ asked_append (get_or ds j []) (get_or es j [])

module _ (Rel : LookName → LookName → Type 0) where
  -- each name that is asked comes of one of the way's
  abbrev pub FromNames : List Demand → List (List Triple) → Type 0
  FromNames ds zs = (j : ℕ) (n : LookName) → IsAskedIn ds j n → (m : LookName) × Contains (asked (get_or zs j [])) m × Rel n m

  pub from_both : (ds es fs : List Demand) (xs ys : List (List Triple)) → Asks fs ds es → FromNames ds xs → FromNames es ys → FromNames fs (merge xs ys)
  from_both ds es fs xs ys asks f g j n a = elim ((asks j n).0 a) [
    | inl b ↦ (let (m, at, r) = f j n b in (m, subst (λ ns. Contains ns m) (sym (asked_merge xs ys j)) (in_left (asked (get_or xs j [])) (asked (get_or ys j [])) m at), r))
    | inr b ↦ (let (m, at, r) = g j n b in (m, subst (λ ns. Contains ns m) (sym (asked_merge xs ys j)) (in_right (asked (get_or xs j [])) (asked (get_or ys j [])) m at), r))
  ]

  -- and the other way about
  abbrev pub ToNames : List Demand → List (List Triple) → Type 0
  ToNames ds zs = (j : ℕ) (m : LookName) → Contains (asked (get_or zs j [])) m → (n : LookName) × IsAskedIn ds j n × Rel n m

  pub to_both : (ds es fs : List Demand) (xs ys : List (List Triple)) → Asks fs ds es → ToNames ds xs → ToNames es ys → ToNames fs (merge xs ys)
  to_both ds es fs xs ys asks f g j m a = elim (in_either (asked (get_or xs j [])) (asked (get_or ys j [])) m (subst (λ ns. Contains ns m) (asked_merge xs ys j) a)) [
    | inl b ↦ (let (n, at, r) = f j m b in (n, (asks j n).1 (inl at), r))
    | inr b ↦ (let (n, at, r) = g j m b in (n, (asks j n).1 (inr at), r))
  ]

-- ---- terms

module _ {H K L : Type 0} (R : H → K → Type 0) (D : L → Type 0) where
  pub all_stand_both : (ps us : List (Term H (L → L))) (qs vs : List (Term K (L → L))) → AllStand R D ps qs → AllStand R D us vs → AllStand R D (ps ++ us) (qs ++ vs)
  all_stand_both [] us [] vs a b = b
  all_stand_both [] us (q ∷ qs) vs a b = absurd a
  all_stand_both (p ∷ ps) us [] vs a b = absurd a
  all_stand_both (p ∷ ps) us (q ∷ qs) vs a b = (a.0, all_stand_both ps us qs vs a.1 b)

  pub parts_stand : (ps : List (Term H (L → L))) (qs : Parts K (L → L)) → AllStand R D ps (list_of qs) → StandFor R D (parts_of ps) qs
  parts_stand [] no_parts a = tt
  parts_stand [] (part q qs) a = absurd a
  parts_stand (p ∷ ps) no_parts a = absurd a
  parts_stand (p ∷ ps) (part q qs) a = (a.0, parts_stand ps qs a.1)

module _ {H K M : Type 0} (eq : M → M → Bool) (make : M → Label → Label) (same : (m n : M) (l : Label) → eq m n ≡ true → make m l ≡ make n l) (R : H → K → Type 0) (D : Label → Type 0) where
  mutual
    -- a copy stands for what the term does
    pub copy_stands : (p q : Term H M) (r : Term K (Label → Label)) → IsCopy eq p q → StandsFor R D (with_maps make q) r → StandsFor R D (with_maps make p) r
    copy_stands (on h j) (on k i) (on g n) c s = (subst (λ x. R x g) (sym c.0) s.0, c.1 ∙ s.1)
    copy_stands (on h j) (on k i) (build d n rs) c s = absurd s
    copy_stands (on h j) (build d n qs) r c s = absurd c
    copy_stands (build c m ps) (on k i) r x s = absurd x
    copy_stands (build c m ps) (build d n qs) (on g i) x s = absurd s
    copy_stands (build c m ps) (build d n qs) (build e f rs) x s = (x.0 ∙ s.0, (λ l d. same m n l x.1 ∙ s.1 l d), copies_stand ps qs rs x.2 s.2)

    pub copies_stand : (ps qs : Parts H M) (rs : Parts K (Label → Label)) → AreCopies eq ps qs → StandFor R D (parts_with_maps make qs) rs → StandFor R D (parts_with_maps make ps) rs
    copies_stand no_parts no_parts no_parts c s = tt
    copies_stand no_parts no_parts (part r rs) c s = s
    copies_stand no_parts (part q qs) rs c s = absurd c
    copies_stand (part p ps) no_parts rs c s = absurd c
    copies_stand (part p ps) (part q qs) no_parts c s = absurd s
    copies_stand (part p ps) (part q qs) (part r rs) c s = (copy_stands p q r c.0 s.0, copies_stand ps qs rs c.1 s.1)

  pub all_copies_stand : (ps qs : List (Term H M)) (rs : List (Term K (Label → Label))) → AllCopies eq ps qs → AllStand R D (map (with_maps make) qs) rs → AllStand R D (map (with_maps make) ps) rs
  all_copies_stand [] [] rs c s = s
  all_copies_stand [] (q ∷ qs) rs c s = absurd c
  all_copies_stand (p ∷ ps) [] rs c s = absurd c
  all_copies_stand (p ∷ ps) (q ∷ qs) [] c s = absurd s
  all_copies_stand (p ∷ ps) (q ∷ qs) (r ∷ rs) c s = (copy_stands p q r c.0 s.0, all_copies_stand ps qs rs c.1 s.1)

-- ---- two drafts and one

module _ {A M : Type 0} (holds : A → Label → Bool) (eq : M → M → Bool) (make : M → Label → Label) (same : (m n : M) (l : Label) → eq m n ≡ true → make m l ≡ make n l) (D : Label → Type 0) {X Y Z : Type 0} (f : X → Y → Z) (left : X → List (Term Triple (Label → Label))) (right : Y → List (Term Triple (Label → Label))) (whole : Z → List (Term Triple (Label → Label))) (whole_is : (x : X) (y : Y) → whole (f x y) ≡ left x ++ right y) where
  terms_both : (R : Triple → Triple → Type 0) (a b y : Draft A M) (x : X) (z : Y) → IsBoth eq a b y → AllStand R D (terms_at holds make a) (left x) → AllStand R D (terms_at holds make b) (right z) → AllStand R D (terms_at holds make y) (whole (f x z))
  terms_both R a b y x z is s t =
      subst (AllStand R D (terms_at holds make y)) (sym (whole_is x z))
      (all_copies_stand eq make same R D (terms_of y) (terms_of a ++ terms_of b) (left x ++ right z) is.copies
      (subst (λ ps. AllStand R D ps (left x ++ right z)) (sym (map-append (with_maps make) (terms_of a) (terms_of b))) (all_stand_both R D (terms_at holds make a) (terms_at holds make b) (left x) (right z) s t)))

  guards_both : (a b y : Draft A M) (l : Label) → IsBoth eq a b y → all_say holds (guards_of y) l ≡ (all_say holds (guards_of a) l && all_say holds (guards_of b) l)
  guards_both a b y l is = ap (λ gs. all_say holds gs l) is.guards ∙ all_say_both holds (guards_of a) (guards_of b) l

  pub same_both : (a b y : Draft A M) (v : WayOf Label X) (w : WayOf Label Y) → IsBoth eq a b y → SaysSame holds make D left a v → SaysSame holds make D right b w → SaysSame holds make D whole y (joined f v w)
  same_both a b y v w is s t = record {
    guard = λ l d. guards_both a b y l is ∙ ap₂ (λ p q. p && q) (s.guard l d) (t.guard l d);
    asks = from_both SameName a.demands.items b.demands.items y.demands.items v.demands w.demands is.asks s.asks t.asks;
    asked_of = to_both SameName a.demands.items b.demands.items y.demands.items v.demands w.demands is.asks s.asked_of t.asked_of;
    same_terms = terms_both SameTriple a b y v.term w.term is s.same_terms t.same_terms;
  }

  pub less_both : (a b y : Draft A M) (v : WayOf Label X) (w : WayOf Label Y) → IsBoth eq a b y → SaysLess holds make D left a v → SaysLess holds make D right b w → SaysLess holds make D whole y (joined f v w)
  less_both a b y v w is s t = record {
    guard = λ l d h. let e = and_parts (v.guard l) (w.guard l) h in guards_both a b y l is ∙ and_from (all_say holds (guards_of a) l) (all_say holds (guards_of b) l) (s.guard l d e.0) (t.guard l d e.1);
    asks = from_both FollowsFrom a.demands.items b.demands.items y.demands.items v.demands w.demands is.asks s.asks t.asks;
    freer_terms = terms_both IsFreer a b y v.term w.term is s.freer_terms t.freer_terms;
  }

  -- drafts of two lists cover their pairs
  pub covers_pairs : {I : Type 0} (Same More : I → Type 0) (vs : I → List (WayOf Label X)) (ws : I → List (WayOf Label Y)) (firsts seconds ys : List (Draft A M))
      → Covers holds make D left Same More vs firsts → Covers holds make D right Same More ws seconds → AreProducts eq firsts seconds ys → Covers holds make D whole Same More (λ i. pairs (joined f) (vs i) (ws i)) ys
  covers_pairs Same More vs ws firsts seconds ys c d p = record {
    each = λ i is y at.
        let (a, in_a, b, in_b, both) = p.each y at in
        let (v, in_v, s) = c.each i is a in_a in
        let (w, in_w, t) = d.each i is b in_b in
        (joined f v w, to_flat (λ v. map (joined f v) (ws i)) (vs i) v (joined f v w) in_v (to_mapped (joined f v) (ws i) w in_w), same_both a b y v w both s t);
    all = λ i more z at.
        let (v, in_v, in_row) = of_flat (λ v. map (joined f v) (ws i)) (vs i) z at in
        let (w, in_w, is) = of_mapped (joined f v) (ws i) z in_row in
        subst (λ z. NeverHolds holds make D whole z ⊎ ((y : Draft A M) × Contains ys y × SaysLess holds make D whole y z)) is (found i more v w in_v in_w);
  }
    where
      found : (i : _) → More i → (v : WayOf Label X) (w : WayOf Label Y) → Contains (vs i) v → Contains (ws i) w → NeverHolds holds make D whole (joined f v w) ⊎ ((y : Draft A M) × Contains ys y × SaysLess holds make D whole y (joined f v w))
      found i more v w in_v in_w = elim (c.all i more v in_v) [
        | inl never ↦ inl (λ l d. false_left (v.guard l) (w.guard l) (never l d))
        | inr s ↦ elim (d.all i more w in_w) [
          | inl never ↦ inl (λ l d. false_right (v.guard l) (w.guard l) (never l d))
          | inr t ↦ inr (let (a, in_a, says_a) = s in let (b, in_b, says_b) = t in let (y, in_y, both) = p.all a in_a b in_b in (y, in_y, less_both a b y v w both says_a says_b))
        ]
      ]
