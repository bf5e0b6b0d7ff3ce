-- Ways over what stands at a child.
use Rattle.std.proofs.Common.{ℕ, zero, suc, ◌≡◌, ◌↔◌, inr, Bool, true, List, [], ◌∷◌, map, get_or, Contains, Some, None, refl, sym, subst, ap, append-nil}
use Rattle.model_tree.specs.Label.{Label}
use Rattle.model_sttr.specs.Terms.{Term, on, with_maps}
use Rattle.model_sttr.specs.Transducer.{Head, identity, run, Sttr}
use Rattle.sttr_theory.specs.Triples.{Triple, LookName, of_second, middle, asked, asked_by}
use Rattle.sttr_theory.specs.Alike.{SameName, SameTriple}
use Rattle.sttr_theory.specs.Lists.{alone, SameStates}
use Rattle.sttr_theory.specs.Ways.{WayOf, plain, leaf_ways, free_ways}
use Rattle.sttr_theory.proofs.Members.{here, in_single, to_mapped, of_mapped}
use Rattle.sttr_run.specs.Drafts.{AreAmong, FollowsFrom, IsFreer, only, no_terms, all_say, AllStand, guards_of, terms_of, terms_at, SaysSame, SaysLess, Covers}
use Rattle.sttr_run.specs.Leaves.{IsLeaf}
use Rattle.sttr_run.specs.declared.drafts.Draft.{Draft}
use Rattle.sttr_run.proofs.Members.{nil_out}

same_self : (Z : List ℕ) → SameStates Z Z
same_self Z = (λ s a. a, λ s a. a)

-- ---- names

names_same : (h : Head) (Z W : List ℕ) → SameStates Z W → (n : LookName) → Contains (asked_by h Z) n → (m : LookName) × Contains (asked_by h W) m × SameName n m
names_same identity Z W same n at = let (s, there, e) = of_mapped of_second Z n at in subst (λ n. (m : LookName) × Contains (asked_by identity W) m × SameName n m) e (of_second s, to_mapped of_second W s (same.0 s there), refl)
names_same (run q) Z W same n at = subst (λ n. (m : LookName) × Contains (asked_by (run q) W) m × SameName n m) (in_single (middle q Z) n at) (middle q W, here (middle q W) [], (W, refl, same))

names_back : (h : Head) (Z W : List ℕ) → SameStates Z W → (m : LookName) → Contains (asked_by h W) m → (n : LookName) × Contains (asked_by h Z) n × SameName n m
names_back identity Z W same m at = let (s, there, e) = of_mapped of_second W m at in subst (λ m. (n : LookName) × Contains (asked_by identity Z) n × SameName n m) e (of_second s, to_mapped of_second Z s (same.1 s there), refl)
names_back (run q) Z W same m at = subst (λ m. (n : LookName) × Contains (asked_by (run q) Z) n × SameName n m) (in_single (middle q W) m at) (middle q Z, here (middle q Z) [], (W, refl, same))

names_less : (h : Head) (Z W : List ℕ) → AreAmong Z W → (n : LookName) → Contains (asked_by h Z) n → (m : LookName) × Contains (asked_by h W) m × FollowsFrom n m
names_less identity Z W among n at = let (s, there, e) = of_mapped of_second Z n at in subst (λ n. (m : LookName) × Contains (asked_by identity W) m × FollowsFrom n m) e (of_second s, to_mapped of_second W s (among s there), refl)
names_less (run q) Z W among n at = subst (λ n. (m : LookName) × Contains (asked_by (run q) W) m × FollowsFrom n m) (in_single (middle q Z) n at) (middle q W, here (middle q W) [], (W, refl, among))

asked_alone : (j i : ℕ) (x : Triple) (m : LookName) → Contains (asked (get_or (alone j x) i [])) m ↔ ((j ≡ i) × Contains (asked_by x.first x.all) m)
asked_alone zero zero x m = (λ a. (refl, subst (λ ns. Contains ns m) (append-nil (asked_by x.first x.all)) a), λ b. subst (λ ns. Contains ns m) (sym (append-nil (asked_by x.first x.all))) b.1)
asked_alone zero (suc i) x m = (λ a. absurd (nil_out m a), λ b. absurd (let e : zero ≡ suc i = b.0 in cc))
asked_alone (suc j) zero x m = (λ a. absurd (nil_out m a), λ b. absurd (let e : suc j ≡ zero = b.0 in cc))
asked_alone (suc j) (suc i) x m = (
  λ a. let b = (asked_alone j i x m).0 a in (ap suc b.0, b.1),
  λ b. (asked_alone j i x m).1 (let e : suc j ≡ suc i = b.0 in cc, b.1),
)

module _ {A M : Type 0} (holds : A → Label → Bool) (make : M → Label → Label) (D : Label → Type 0) where
  no_guard : (y : Draft A M) (l : Label) → guards_of y ≡ [] → all_say holds (guards_of y) l ≡ true
  no_guard y l e = ap (λ gs. all_say holds gs l) e

  terms_are : (R : Triple → Triple → Type 0) (y : Draft A M) (ts : List (Term Triple M)) (us : List (Term Triple (Label → Label))) → terms_of y ≡ ts → AllStand R D (map (with_maps make) ts) us → AllStand R D (terms_at holds make y) us
  terms_are R y ts us e a = subst (λ xs. AllStand R D (map (with_maps make) xs) us) (sym e) a

  -- the way that asks and gives nothing
  pub covers_plain : {X I : Type 0} (terms : X → List (Term Triple (Label → Label))) (x : X) → terms x ≡ [] → (Same More : I → Type 0) (ys : List (Draft A M)) → IsLeaf 0 [] [] ys → Covers holds make D terms Same More (λ i. plain x ∷ []) ys
  covers_plain terms x none Same More ys (y, is, leaf) = record {
    each = λ i s u at. (
      plain x,
      here (plain x) [],
      subst (λ v. SaysSame holds make D terms v (plain x)) (in_single y u (subst (λ vs. Contains vs u) is at)) (record {
        guard = λ l d. no_guard y l leaf.no_guards;
        asks = λ j n a. absurd (nil_out n ((leaf.asks j n).0 a).1);
        asked_of = λ j m a. absurd (nil_out m a);
        same_terms = terms_are SameTriple y [] (terms x) leaf.same_terms (subst (AllStand SameTriple D []) (sym none) tt);
      }),
    );
    all = λ i s z at. inr (
      y,
      subst (λ vs. Contains vs y) (sym is) (here y []),
      subst (SaysLess holds make D terms y) (in_single (plain x) z at) (record {
        guard = λ l d h. no_guard y l leaf.no_guards;
        asks = λ j n a. absurd (nil_out n ((leaf.asks j n).0 a).1);
        freer_terms = terms_are IsFreer y [] (terms x) leaf.same_terms (subst (AllStand IsFreer D []) (sym none) tt);
      }),
    );
  }

  module _ (all : List ℕ) (j : ℕ) (ys : List (Draft A M)) where
    -- a way that demands of one child
    abbrev DemandsAlone : {X : Type 0} → Head → X → List ℕ → WayOf Label X
    DemandsAlone h x Z = record { guard = λ l. true; demands = alone j (record { first = h; all = Z; second = None }); term = x }

    demands_covered : {X : Type 0} (terms : X → List (Term Triple (Label → Label))) (h : Head) (x : X) (ts : List (Term Triple M)) → AllStand SameTriple D (map (with_maps make) ts) (terms x) → AllStand IsFreer D (map (with_maps make) ts) (terms x) → IsLeaf j (asked_by h all) ts ys
        → Covers holds make D terms (SameStates all) (AreAmong all) (λ Z. DemandsAlone h x Z ∷ []) ys
    demands_covered terms h x ts same less (y, is, leaf) = record {
      each = λ Z s u at. (
        DemandsAlone h x Z,
        here (DemandsAlone h x Z) [],
        subst (λ v. SaysSame holds make D terms v (DemandsAlone h x Z)) (in_single y u (subst (λ vs. Contains vs u) is at)) (record {
          guard = λ l d. no_guard y l leaf.no_guards;
          asks = λ i n a. (let (e, in_names) = (leaf.asks i n).0 a in let (m, there, r) = names_same h all Z s n in_names in (m, (asked_alone j i (record { first = h; all = Z; second = None }) m).1 (e, there), r));
          asked_of = λ i m a. (let (e, in_names) = (asked_alone j i (record { first = h; all = Z; second = None }) m).0 a in let (n, there, r) = names_back h all Z s m in_names in (n, (leaf.asks i n).1 (e, there), r));
          same_terms = terms_are SameTriple y ts (terms x) leaf.same_terms same;
        }),
      );
      all = λ Z s z at. inr (
        y,
        subst (λ vs. Contains vs y) (sym is) (here y []),
        subst (SaysLess holds make D terms y) (in_single (DemandsAlone h x Z) z at) (record {
          guard = λ l d t. no_guard y l leaf.no_guards;
          asks = λ i n a. (let (e, in_names) = (leaf.asks i n).0 a in let (m, there, r) = names_less h all Z s n in_names in (m, (asked_alone j i (record { first = h; all = Z; second = None }) m).1 (e, there), r));
          freer_terms = terms_are IsFreer y ts (terms x) leaf.same_terms less;
        }),
      );
    }

    pub demanded_covered : (g : Sttr Label) (h : Head) → IsLeaf j (asked_by h all) [] ys → Covers holds make D no_terms (SameStates all) (AreAmong all) (free_ways g (on h j)) ys
    demanded_covered g h leaf = demands_covered no_terms h tt [] tt tt leaf

    pub unchanged_covered : (k : Head) → IsLeaf j (asked_by identity all) (on (record { first = identity; all = []; second = Some k }) j ∷ []) ys → Covers holds make D only (SameStates all) (AreAmong all) (leaf_ways identity j k) ys
    unchanged_covered k leaf =
        demands_covered only identity (on (record { first = identity; all = []; second = Some k }) j) (on (record { first = identity; all = []; second = Some k }) j ∷ [])
        (((refl, same_self [], refl), refl), tt) (((refl, (λ s a. a), refl), refl), tt) leaf

    abbrev triple : ℕ → Head → List ℕ → Triple
    triple q k Z = record { first = run q; all = Z; second = Some k }

    abbrev way : ℕ → Head → List ℕ → WayOf Label (Term Triple (Label → Label))
    way q k Z = plain (on (triple q k Z) j)

    pub called_covered : (q : ℕ) (k : Head) → IsLeaf j [] (on (record { first = run q; all = all; second = Some k }) j ∷ []) ys → Covers holds make D only (SameStates all) (AreAmong all) (leaf_ways (run q) j k) ys
    called_covered q k (y, is, leaf) = record {
      each = λ Z s u at. (
        way q k Z,
        here (way q k Z) [],
        subst (λ v. SaysSame holds make D only v (way q k Z)) (in_single y u (subst (λ vs. Contains vs u) is at)) (record {
          guard = λ l d. no_guard y l leaf.no_guards;
          asks = λ i n a. absurd (nil_out n ((leaf.asks i n).0 a).1);
          asked_of = λ i m a. absurd (nil_out m a);
          same_terms = terms_are SameTriple y (on (triple q k all) j ∷ []) (on (triple q k Z) j ∷ []) leaf.same_terms (((refl, s, refl), refl), tt);
        }),
      );
      all = λ Z s z at. inr (
        y,
        subst (λ vs. Contains vs y) (sym is) (here y []),
        subst (SaysLess holds make D only y) (in_single (way q k Z) z at) (record {
          guard = λ l d t. no_guard y l leaf.no_guards;
          asks = λ i n a. absurd (nil_out n ((leaf.asks i n).0 a).1);
          freer_terms = terms_are IsFreer y (on (triple q k all) j ∷ []) (on (triple q k Z) j ∷ []) leaf.same_terms (((refl, s, refl), refl), tt);
        }),
      );
    }
