-- Ways that say the same, as they are made; and lists of them that cover others.
use Rattle.std.specs.Prelude.{⊤}
use Rattle.std.specs.List.{flat_map}
use Rattle.std.proofs.Common.{ℕ, zero, suc, ◌≡◌, ◌&&◌, Bool, true, false, List, [], ◌∷◌, ◌++◌, map, get_or, Option, Contains, refl, sym, ap, ap₂, subst, ◌∙◌}
use Rattle.std.proofs.lemmas.List.{append_assoc}
use Rattle.model_sta.specs.Automaton.{Rule}
use Rattle.model_sta.specs.Sets.{Each}
use Rattle.model_sttr.specs.Terms.{Term}
use Rattle.model_sttr.specs.Transducer.{Head, identity, run}
use Rattle.sttr_theory.specs.Lists.{pairs, merge, alone, Match, SameStates}
use Rattle.sttr_theory.specs.Covers.{Covers, Never}
use Rattle.sttr_theory.specs.Triples.{Triple, LookName, of_first, of_second, middle, seconds, asked_by, asked}
use Rattle.sttr_theory.specs.Ways.{WayOf, Pick, plain, joined, guarded, with_term, fires, free_way, giving_way}
use Rattle.sttr_theory.specs.Alike.{SameName, SameAsked, SameTerms, AlikeWay, AlikeOf, CoverWays, AlikePick, CoverPicks}
use Rattle.sttr_theory.proofs.Members.{to_mapped, of_mapped, map_append}
use Rattle.sttr_theory.proofs.Each.{each_to_map, each_all}
use Rattle.sttr_theory.proofs.Matches.{match_one, match_append, match_self, match_turned, match_twice}
use Rattle.sttr_theory.proofs.Accept.{other_number}
use Rattle.sttr_theory.proofs.Once.{same_self, same_turned, same_twice}
use Rattle.sttr_theory.proofs.Covers.{covers_one, covers_map, covers_flat, covers_pairs, covers_through}
use Rattle.sttr_theory.proofs.OneOf.{merge_at}

-- ---- what is asked

pub name_self : (n : LookName) → SameName n n
name_self (of_first s) = refl
name_self (of_second s) = refl
name_self (middle q Z) = (Z, refl, same_self Z)

pub name_turned : (n m : LookName) → SameName n m → SameName m n
name_turned (of_first s) m e = subst (λ k. SameName k (of_first s)) e refl
name_turned (of_second s) m e = subst (λ k. SameName k (of_second s)) e refl
name_turned (middle q Z) m (W, e, same) = subst (λ k. SameName k (middle q Z)) e (Z, refl, same_turned Z W same)

pub name_twice : (n m k : LookName) → SameName n m → SameName m k → SameName n k
name_twice (of_first s) m k e r = subst (λ x. SameName x k) (sym e) r
name_twice (of_second s) m k e r = subst (λ x. SameName x k) (sym e) r
name_twice (middle q Z) m k (W, e, same) r = let (V, e', same') = subst (λ x. SameName x k) (sym e) r in (V, e', same_twice Z W V same same')

pub asked_append : (ds es : List Triple) → asked (ds ++ es) ≡ asked ds ++ asked es
asked_append [] es = refl
asked_append (d ∷ ds) es = ap (λ ns. asked_by d.first d.all ++ ns) (asked_append ds es) ∙ sym (append_assoc (asked_by d.first d.all) (asked ds) (asked es))

pub asked_self : (ds : List Triple) → SameAsked ds ds
asked_self ds = match_self SameName name_self (asked ds)

pub asked_turned : (ds es : List Triple) → SameAsked ds es → SameAsked es ds
asked_turned ds es m = match_turned SameName name_turned (asked ds) (asked es) m

pub asked_twice : (ds es cs : List Triple) → SameAsked ds es → SameAsked es cs → SameAsked ds cs
asked_twice ds es cs m n = match_twice SameName name_twice (asked ds) (asked es) (asked cs) m n

pub asked_both : (ds ds' es es' : List Triple) → SameAsked ds es → SameAsked ds' es' → SameAsked (ds ++ ds') (es ++ es')
asked_both ds ds' es es' m n =
    subst (λ ns. Match SameName ns (asked (es ++ es'))) (sym (asked_append ds ds'))
    (subst (λ ns. Match SameName (asked ds ++ asked ds') ns) (sym (asked_append es es')) (match_append SameName (asked ds) (asked ds') (asked es) (asked es') m n))

-- the same states are asked, whatever the second parts are
pub asked_states : (h : Head) (Z W : List ℕ) (k k' : Option Head) → SameStates Z W → SameAsked (record { first = h; all = Z; second = k } ∷ []) (record { first = h; all = W; second = k' } ∷ [])
asked_states identity Z W k k' same = match_append SameName (seconds Z) [] (seconds W) [] (
  λ n c. let (s, at, e) = of_mapped of_second Z n c in (of_second s, to_mapped of_second W s (same.0 s at), subst (λ m. SameName m (of_second s)) e refl),
  λ n c. let (s, at, e) = of_mapped of_second W n c in (of_second s, to_mapped of_second Z s (same.1 s at), subst (λ m. SameName (of_second s) m) e refl),
) (match_self SameName name_self [])
asked_states (run q) Z W k k' same = match_one SameName (middle q Z) (middle q W) (W, refl, same)

-- demands of a child that is given unchanged can be asked together
pub asked_joined : (Z W : List ℕ) (k k' i : Option Head) (ds : List Triple) → asked (record { first = identity; all = Z ++ W; second = i } ∷ ds) ≡ asked (record { first = identity; all = Z; second = k } ∷ record { first = identity; all = W; second = k' } ∷ ds)
asked_joined Z W k k' i ds = ap (λ ns. ns ++ asked ds) (map_append of_second Z W) ∙ append_assoc (seconds Z) (seconds W) (asked ds)

-- place by place
abbrev pub SameDemands : List (List Triple) → List (List Triple) → Type 0
SameDemands ds es = (j : ℕ) → SameAsked (get_or ds j []) (get_or es j [])

pub demands_merged : (ds ds' es es' : List (List Triple)) → SameDemands ds es → SameDemands ds' es' → SameDemands (merge ds ds') (merge es es')
demands_merged ds ds' es es' m n j =
    subst (λ xs. SameAsked xs (get_or (merge es es') j [])) (sym (merge_at ds ds' j))
    (subst (λ ys. SameAsked (get_or ds j [] ++ get_or ds' j []) ys) (sym (merge_at es es' j)) (asked_both (get_or ds j []) (get_or ds' j []) (get_or es j []) (get_or es' j []) (m j) (n j)))

pub demands_alone : (i : ℕ) (d e : Triple) → SameAsked (d ∷ []) (e ∷ []) → SameDemands (alone i d) (alone i e)
demands_alone zero d e same zero = same
demands_alone zero d e same (suc j) = asked_self []
demands_alone (suc i) d e same zero = asked_self []
demands_alone (suc i) d e same (suc j) = demands_alone i d e same j

module _ {L : Type 0} (D : L → Type 0) where
  -- ---- one way

  module _ {X Y : Type 0} (P : X → Y → Type 0) where
    pub alike_plain : (x : X) (y : Y) → P x y → AlikeOf D P (plain x) (plain y)
    alike_plain x y r = record { same_guard = λ l d. refl; same_demands = λ j. asked_self []; same_term = r }

    pub alike_guarded : (h i : L → Bool) → ((l : L) → D l → h l ≡ i l) → (y : WayOf L X) (z : WayOf L Y) → AlikeOf D P y z → AlikeOf D P (guarded h y) (guarded i z)
    alike_guarded h i same y z a = record { same_guard = λ l d. ap₂ (λ x y. x && y) (same l d) (a.same_guard l d); same_demands = a.same_demands; same_term = a.same_term }

    -- what says the same as one that says the same, whatever its own term is
    pub alike_made : {X' : Type 0} (Q : X' → Y → Type 0) (x : WayOf L X') (y : WayOf L X) (z : WayOf L Y) → AlikeOf D P y z → ((l : L) → D l → x.guard l ≡ y.guard l) → SameDemands x.demands y.demands → Q x.term z.term → AlikeOf D Q x z
    alike_made Q x y z a guard demands r = record {
      same_guard = λ l d. guard l d ∙ a.same_guard l d;
      same_demands = λ j. asked_twice (get_or x.demands j []) (get_or y.demands j []) (get_or z.demands j []) (demands j) (a.same_demands j);
      same_term = r;
    }

  pub alike_self : {X : Type 0} (P : X → X → Type 0) → ((x : X) → P x x) → (y : WayOf L X) → AlikeOf D P y y
  alike_self P is y = record { same_guard = λ l d. refl; same_demands = λ j. asked_self (get_or y.demands j []); same_term = is y.term }

  pub alike_through : {X Y Z : Type 0} (P : X → Y → Type 0) (Q : Y → Z → Type 0) (S : X → Z → Type 0) → ((x : X) (y : Y) (z : Z) → P x y → Q y z → S x z) → (x : WayOf L X) (y : WayOf L Y) (z : WayOf L Z) → AlikeOf D P x y → AlikeOf D Q y z → AlikeOf D S x z
  alike_through P Q S both x y z a b = record {
    same_guard = λ l d. a.same_guard l d ∙ b.same_guard l d;
    same_demands = λ j. asked_twice (get_or x.demands j []) (get_or y.demands j []) (get_or z.demands j []) (a.same_demands j) (b.same_demands j);
    same_term = both x.term y.term z.term a.same_term b.same_term;
  }

  pub alike_with_term : {X Y X' Y' : Type 0} (P : X → Y → Type 0) (Q : X' → Y' → Type 0) (f : X → X') (g : Y → Y') → ((x : X) (y : Y) → P x y → Q (f x) (g y)) → (y : WayOf L X) (z : WayOf L Y) → AlikeOf D P y z → AlikeOf D Q (with_term f y) (with_term g z)
  alike_with_term P Q f g is y z a = record { same_guard = a.same_guard; same_demands = a.same_demands; same_term = is y.term z.term a.same_term }

  pub alike_joined : {X X' Y Y' Z Z' : Type 0} (P : X → X' → Type 0) (Q : Y → Y' → Type 0) (S : Z → Z' → Type 0) (f : X → Y → Z) (g : X' → Y' → Z') → ((x : X) (x' : X') (y : Y) (y' : Y') → P x x' → Q y y' → S (f x y) (g x' y'))
      → (x : WayOf L X) (x' : WayOf L X') (y : WayOf L Y) (y' : WayOf L Y') → AlikeOf D P x x' → AlikeOf D Q y y' → AlikeOf D S (joined f x y) (joined g x' y')
  alike_joined P Q S f g is x x' y y' a b = record {
    same_guard = λ l d. ap₂ (λ x y. x && y) (a.same_guard l d) (b.same_guard l d);
    same_demands = demands_merged x.demands y.demands x'.demands y'.demands a.same_demands b.same_demands;
    same_term = is x.term x'.term y.term y'.term a.same_term b.same_term;
  }

  -- ---- what never holds

  and_right : (a b : Bool) → b ≡ false → (a && b) ≡ false
  and_right true b e = e
  and_right false b e = refl

  pub never_left : (h i : L → Bool) → Never D h → Never D (λ l. h l && i l)
  never_left h i never l d = ap (λ x. x && i l) (never l d)

  pub never_right : (h i : L → Bool) → Never D i → Never D (λ l. h l && i l)
  never_right h i never l d = and_right (h l) (i l) (never l d)

  -- nothing holds behind a guard that never does
  pub never_guarded : {X : Type 0} (h : L → Bool) → Never D h → (ys : List (WayOf L X)) → Each (λ z. Never D z.guard) (map (guarded h) ys)
  never_guarded h never ys = each_to_map (λ z. Never D z.guard) (guarded h) ys (each_all (λ y. Never D (λ l. h l && y.guard l)) ys (λ y c. never_left h y.guard never))

  -- so a rule for another constructor
  pub never_fires : (r : Rule L) (c : ℕ) → ¬ (r.constructor ≡ c) → (m : L → L) → Never D (λ l. fires r c (m l))
  never_fires r c other m l d = ap (λ b. b && r.guard (m l)) (other_number r.constructor c other)

  -- ---- lists

  module _ {X Y : Type 0} (P : X → Y → Type 0) where
    pub cover_plain : (x : X) (y : Y) → P x y → CoverWays D P (plain x ∷ []) (plain y ∷ [])
    cover_plain x y r = covers_one (AlikeOf D P) (λ z. Never D z.guard) (plain x) (plain y) (alike_plain P x y r)

    pub cover_guarded : (h i : L → Bool) → ((l : L) → D l → h l ≡ i l) → (ys : List (WayOf L X)) (zs : List (WayOf L Y)) → CoverWays D P ys zs → CoverWays D P (map (guarded h) ys) (map (guarded i) zs)
    cover_guarded h i same ys zs a = covers_map (AlikeOf D P) (λ z. Never D z.guard) (AlikeOf D P) (λ z. Never D z.guard) (guarded h) (guarded i) (λ y z r. alike_guarded P h i same y z r) (λ z never. never_right i z.guard never) ys zs a

  pub cover_through : {X Y Z : Type 0} (P : X → Y → Type 0) (Q : Y → Z → Type 0) (S : X → Z → Type 0) → ((x : X) (y : Y) (z : Z) → P x y → Q y z → S x z) → (xs : List (WayOf L X)) (ys : List (WayOf L Y)) (zs : List (WayOf L Z)) → CoverWays D P xs ys → CoverWays D Q ys zs → CoverWays D S xs zs
  cover_through P Q S both xs ys zs a b =
      covers_through (AlikeOf D P) (λ z. Never D z.guard) (AlikeOf D Q) (λ z. Never D z.guard) (AlikeOf D S) (λ x y z r s. alike_through P Q S both x y z r s) (λ y z s never l d. sym (s.same_guard l d) ∙ never l d) xs ys zs a b

  pub cover_with_term : {X Y X' Y' : Type 0} (P : X → Y → Type 0) (Q : X' → Y' → Type 0) (f : X → X') (g : Y → Y') → ((x : X) (y : Y) → P x y → Q (f x) (g y)) → (ys : List (WayOf L X)) (zs : List (WayOf L Y)) → CoverWays D P ys zs → CoverWays D Q (map (with_term f) ys) (map (with_term g) zs)
  cover_with_term P Q f g is ys zs a = covers_map (AlikeOf D P) (λ z. Never D z.guard) (AlikeOf D Q) (λ z. Never D z.guard) (with_term f) (with_term g) (λ y z r. alike_with_term P Q f g is y z r) (λ z never. never) ys zs a

  pub cover_joined : {X X' Y Y' Z Z' : Type 0} (P : X → X' → Type 0) (Q : Y → Y' → Type 0) (S : Z → Z' → Type 0) (f : X → Y → Z) (g : X' → Y' → Z') → ((x : X) (x' : X') (y : Y) (y' : Y') → P x x' → Q y y' → S (f x y) (g x' y'))
      → (xs : List (WayOf L X)) (xs' : List (WayOf L X')) (ys : List (WayOf L Y)) (ys' : List (WayOf L Y')) → CoverWays D P xs xs' → CoverWays D Q ys ys' → CoverWays D S (pairs (joined f) xs ys) (pairs (joined g) xs' ys')
  cover_joined P Q S f g is xs xs' ys ys' a b =
      covers_pairs (AlikeOf D P) (λ z. Never D z.guard) (AlikeOf D Q) (λ z. Never D z.guard) (AlikeOf D S) (λ z. Never D z.guard) (joined f) (joined g)
      (λ x x' y y' r s. alike_joined P Q S f g is x x' y y' r s) (λ x y never. never_left x.guard y.guard never) (λ x y never. never_right x.guard y.guard never) xs xs' ys ys' a b

  -- ways behind picked rules
  pub cover_picked : {X Y : Type 0} (P : X → Y → Type 0) (m : L → L) (f : Pick L → List (WayOf L X)) (g : Pick L → List (WayOf L Y)) (xs zs : List (Pick L)) → ((x z : Pick L) → Contains xs x → AlikePick D m x z → CoverWays D P (f x) (g z))
      → CoverPicks D m xs zs → CoverWays D P (flat_map (λ x. map (guarded x.guard) (f x)) xs) (flat_map (λ z. map (guarded (λ l. z.guard (m l))) (g z)) zs)
  cover_picked P m f g xs zs is a =
      covers_flat (AlikePick D m) (λ z. Never D (λ l. z.guard (m l))) (AlikeOf D P) (λ z. Never D z.guard) (λ x. map (guarded x.guard) (f x)) (λ z. map (guarded (λ l. z.guard (m l))) (g z)) xs zs
      (λ x z at at' r. cover_guarded P x.guard (λ l. z.guard (m l)) r.same_guard (f x) (g z) (is x z at r)) (λ z at never. never_guarded (λ l. z.guard (m l)) never (g z)) a

  -- the whole ways
  pub cover_free : (ys zs : List (WayOf L ⊤)) → CoverWays D (λ a b. ⊤) ys zs → Covers (AlikeWay D) (λ z. Never D z.guard) (map free_way ys) (map free_way zs)
  cover_free ys zs a = covers_map (AlikeOf D (λ a b. ⊤)) (λ z. Never D z.guard) (AlikeWay D) (λ z. Never D z.guard) free_way free_way (λ y z r. record { same_guard = r.same_guard; same_demands = r.same_demands; same_term = tt }) (λ z never. never) ys zs a

  pub cover_giving : (ys zs : List (WayOf L (Term Triple (L → L)))) → CoverWays D (SameTerms D) ys zs → Covers (AlikeWay D) (λ z. Never D z.guard) (map giving_way ys) (map giving_way zs)
  cover_giving ys zs a = covers_map (AlikeOf D (SameTerms D)) (λ z. Never D z.guard) (AlikeWay D) (λ z. Never D z.guard) giving_way giving_way (λ y z r. record { same_guard = r.same_guard; same_demands = r.same_demands; same_term = r.same_term }) (λ z never. never) ys zs a
