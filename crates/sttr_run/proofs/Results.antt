-- Finished drafts are the ways, and come from the term and the second.
use Rattle.std.proofs.Common.{ℕ, ◌≡◌, ◌⊎◌, ◌<◌, inl, inr, Bool, false, ◌&&◌, List, [], ◌∷◌, map, get_or, length, All, Contains, Option, Some, None, refl, sym, subst, ap, ◌∙◌, arith}
use Rattle.std.specs.List.{list_all}
use Rattle.std.specs.Option.{option_map}
use Rattle.model_tree.specs.Label.{Label}
use Rattle.model_tree.specs.Formula.{Formula, formulas_of, formula_holds, all_hold, EveryAtom, EveryAtomOfAll}
use Rattle.model_sttr.specs.Terms.{Term, with_maps, StandsFor}
use Rattle.model_sttr.specs.Transducer.{Head, Sttr}
use Rattle.sttr_core.specs.Fits.{EveryMap}
use Rattle.sttr_core.specs.Machine.{OutMachine, transducer_of}
use Rattle.sttr_theory.specs.Lists.{SameStates}
use Rattle.sttr_theory.specs.Alike.{SameName, SameTriple, SameTerm, AlikeWay}
use Rattle.sttr_theory.specs.Triples.{Triple, LookName, asked, AreWays}
use Rattle.sttr_theory.specs.Triples as theory
use Rattle.sttr_theory.specs.Ways.{WayOf, free_ways, gives_ways, free_way, giving_way}
use Rattle.sttr_theory.proofs.Members.{there, to_mapped, of_mapped}
use Rattle.sttr_theory.proofs.Exact.{ways_exact}
use Rattle.sttr_run.specs.Drafts.{AreAmong, FollowsFrom, IsFreer, no_terms, only, all_say, AllStand, guards_of, terms_of, terms_at, SaysSame, SaysLess, Covers}
use Rattle.sttr_run.specs.Finished.{triples_at, IsOnly, IsFinished, AreFinished}
use Rattle.sttr_run.specs.Fits.{SttrStands, LooksStand}
use Rattle.sttr_run.specs.Found.{GuardStands, MapStands, DraftStands, IsFound}
use Rattle.sttr_run.specs.Plain.{plain_way_term, way_at}
use Rattle.sttr_run.specs.Runs.{OnTerm, IsPutAtom, IsRunMap, WayIsMade}
use Rattle.sttr_run.specs.Sets.{Grown}
use Rattle.sttr_run.specs.declared.drafts.Draft.{Draft}
use Rattle.sttr_run.specs.declared.triples.Way.{Way}
use Rattle.sttr_run.specs.declared.triples.WayTerm.{WayTerm}
use Rattle.sttr_run.proofs.Exactly.{TermStands, Follows, covering_are_ways}
use Rattle.sttr_run.proofs.Fitted.{are_states, stands_fit}
use Rattle.sttr_run.proofs.Members.{all_at, all_of}
use Rattle.sttr_run.proofs.RowWays.{set_same}

module _ {A : Type 0} (h : A → Bool) where
  all_hold_is : (gs : List (Formula A)) → all_hold h (formulas_of gs) ≡ list_all (λ g. formula_holds h g) gs
  all_hold_is [] = refl
  all_hold_is (g ∷ gs) = ap (λ b. formula_holds h g && b) (all_hold_is gs)

module _ {A : Type 0} (P : A → Type 0) where
  every_of : (gs : List (Formula A)) → ((g : Formula A) → Contains gs g → EveryAtom P g) → EveryAtomOfAll P (formulas_of gs)
  every_of [] f = tt
  every_of (g ∷ gs) f = (f g (0, omega arith, refl), every_of gs (λ x at. f x (there g gs x at)))

module _ {A M : Type 0} (holds : A → Label → Bool) (make : M → Label → Label) (D : Label → Type 0) where
  guard_is : (y : Draft A M) (w : Way A M) (l : Label) → IsFinished y w → (way_at holds make w).guard l ≡ all_say holds (guards_of y) l
  guard_is y w l f = ap (formula_holds (λ a. holds a l)) f.guard ∙ all_hold_is (λ a. holds a l) (guards_of y)

  -- the term of a draft that has at most one
  abbrev list_term : Option (Term Triple (Label → Label)) → List (Term Triple (Label → Label))
  list_term None = []
  list_term (Some q) = q ∷ []

  module _ (R : Triple → Triple → Type 0) where
    term_is : (o : Option (WayTerm M)) (ts : List (Term Triple M)) (q : Option (Term Triple (Label → Label))) → IsOnly ts (option_map plain_way_term o) → AllStand R D (map (with_maps make) ts) (list_term q) → TermStands R D (option_map (λ z. with_maps make (plain_way_term z)) o) q
    term_is None [] None only' s = tt
    term_is None [] (Some q) only' s = absurd s
    term_is None (t ∷ []) q only' s = cc
    term_is (Some u) [] q only' s = cc
    term_is (Some u) (t ∷ []) None only' s = absurd s
    term_is (Some u) (t ∷ []) (Some q) only' s = let e : plain_way_term u ≡ t = cc in subst (λ x. StandsFor R D (with_maps make x) q) (sym e) s.0
    term_is o (t ∷ t' ∷ ts) None only' s = absurd s
    term_is o (t ∷ t' ∷ ts) (Some q) only' s = absurd s.1

  same_term : (p q : Option (Term Triple (Label → Label))) → TermStands SameTriple D p q → SameTerm D p q
  same_term None None s = tt
  same_term None (Some q) s = absurd s
  same_term (Some p) None s = absurd s
  same_term (Some p) (Some q) s = s

  module _ {X : Type 0} (terms : X → List (Term Triple (Label → Label))) (way : WayOf Label X → theory.Way Label) (opt : X → Option (Term Triple (Label → Label))) (guards : (z : WayOf Label X) (l : Label) → (way z).guard l ≡ z.guard l) (demands : (z : WayOf Label X) → (way z).demands ≡ z.demands) (term : (z : WayOf Label X) → (way z).term ≡ opt z.term) (lists : (x : X) → list_term (opt x) ≡ terms x) where
    alike : (y : Draft A M) (w : Way A M) (z : WayOf Label X) → IsFinished y w → SaysSame holds make D terms y z → AlikeWay D (way_at holds make w) (way z)
    alike y w z f s = record {
      same_guard = λ l d. guard_is y w l f ∙ s.guard l d ∙ sym (guards z l);
      same_demands = λ j. subst (λ ds. ((n : LookName) → Contains (asked (triples_at w.demands.items j)) n → (m : LookName) × Contains (asked (get_or ds j [])) m × SameName n m) × ((m : LookName) → Contains (asked (get_or ds j [])) m → (n : LookName) × Contains (asked (triples_at w.demands.items j)) n × SameName n m)) (sym (demands z)) (
        (λ n at. s.asks j n ((f.asks j n).0 at)),
        λ m at. let (n, b, r) = s.asked_of j m at in (n, (f.asks j n).1 b, r),
      );
      same_term = same_term (way_at holds make w).term (way z).term (subst (TermStands SameTriple D (way_at holds make w).term) (sym (term z)) (term_is SameTriple w.term (terms_of y) (opt z.term) f.same_term (subst (AllStand SameTriple D (terms_at holds make y)) (sym (lists z.term)) s.same_terms)));
    }

    follows : (y : Draft A M) (w : Way A M) (z : WayOf Label X) → IsFinished y w → SaysLess holds make D terms y z → Follows D (way_at holds make w) (way z)
    follows y w z f s = record {
      guard = λ l d h. guard_is y w l f ∙ s.guard l d (sym (guards z l) ∙ h);
      asks = λ j n at. subst (λ ds. (m : LookName) × Contains (asked (get_or ds j [])) m × FollowsFrom n m) (sym (demands z)) (s.asks j n ((f.asks j n).0 at));
      freer_term = subst (TermStands IsFreer D (way_at holds make w).term) (sym (term z)) (term_is IsFreer w.term (terms_of y) (opt z.term) f.same_term (subst (AllStand IsFreer D (terms_at holds make y)) (sym (lists z.term)) s.freer_terms));
    }

    module _ (Z all : List ℕ) (g : Grown [] all (Contains Z)) (F : List ℕ → List (WayOf Label X)) (ys : List (Draft A M)) (ws : List (Way A M)) (c : Covers holds make D terms (SameStates all) (AreAmong all) F ys) (done : AreFinished ys ws) where
      each_way : (v : theory.Way Label) → Contains (map (way_at holds make) ws) v → (z : theory.Way Label) × Contains (map way (F Z)) z × AlikeWay D v z
      each_way v at =
          let (w, in_ws, is) = of_mapped (way_at holds make) ws v at in
          let (y, in_ys, f) = done.each w in_ws in
          let (z, in_z, s) = c.each Z (set_same all Z g) y in_ys in
          subst (λ v. (z : theory.Way Label) × Contains (map way (F Z)) z × AlikeWay D v z) is (way z, to_mapped way (F Z) z in_z, alike y w z f s)

      all_ways : (v : theory.Way Label) → Contains (map way (F Z)) v → ((l : Label) → D l → v.guard l ≡ false) ⊎ ((w : theory.Way Label) × Contains (map (way_at holds make) ws) w × Follows D w v)
      all_ways v at =
          let (z, in_z, is) = of_mapped way (F Z) v at in
          subst (λ v. ((l : Label) → D l → v.guard l ≡ false) ⊎ ((w : theory.Way Label) × Contains (map (way_at holds make) ws) w × Follows D w v)) is
          (elim (c.all Z (set_same all Z g).0 z in_z) [
            | inl never ↦ inl (λ l d. guards z l ∙ never l d)
            | inr found ↦ inr (let (y, in_ys, s) = found in let (w, in_ws, f) = done.all y in_ys in (way_at holds make w, to_mapped (way_at holds make) ws w in_ws, follows y w z f s))
          ])

  module _ (second : OutMachine A M) (looks : LooksStand second.looks) (stands : SttrStands second) (p : Term Head M) (x : Triple) (low : All (λ s. s < length second.looks.rules) x.all) (all : List ℕ) (g : Grown [] all (Contains x.all)) (ys : List (Draft A M)) (ws : List (Way A M)) (done : AreFinished ys ws) (f : Sttr Label) where
    abbrev T : Sttr Label
    T = transducer_of holds make second

    by_second : (k : Option Head) → IsFound holds make D second p all k ys → AreWays f T D (with_maps make p) (record { first = x.first; all = x.all; second = k }) (map (way_at holds make) ws)
    by_second None found =
        covering_are_ways f T D (with_maps make p) (record { first = x.first; all = x.all; second = None }) (map (way_at holds make) ws) (map free_way (free_ways T (with_maps make p) x.all))
        (ways_exact f T second.looks.ranks (stands_fit holds make second looks stands) D (with_maps make p) (record { first = x.first; all = x.all; second = None }) (are_states holds make second x.all low))
        (each_way no_terms free_way (λ u. None) (λ z l. refl) (λ z. refl) (λ z. refl) (λ u. refl) x.all all g (free_ways T (with_maps make p)) ys ws found done)
        (all_ways no_terms free_way (λ u. None) (λ z l. refl) (λ z. refl) (λ z. refl) (λ u. refl) x.all all g (free_ways T (with_maps make p)) ys ws found done)
    by_second (Some h) found =
        covering_are_ways f T D (with_maps make p) (record { first = x.first; all = x.all; second = Some h }) (map (way_at holds make) ws) (map giving_way (gives_ways T (with_maps make p) x.all h))
        (ways_exact f T second.looks.ranks (stands_fit holds make second looks stands) D (with_maps make p) (record { first = x.first; all = x.all; second = Some h }) (are_states holds make second x.all low))
        (each_way only giving_way (λ q. Some q) (λ z l. refl) (λ z. refl) (λ z. refl) (λ q. refl) x.all all g (λ Z. gives_ways T (with_maps make p) Z h) ys ws found done)
        (all_ways only giving_way (λ q. Some q) (λ z l. refl) (λ z. refl) (λ z. refl) (λ q. refl) x.all all g (λ Z. gives_ways T (with_maps make p) Z h) ys ws found done)

    -- the finished drafts are the ways
    pub are_ways : IsFound holds make D second p all x.second ys → AreWays f T D (with_maps make p) x (map (way_at holds make) ws)
    are_ways found = by_second x.second found

  -- no draft has more than one term
  few_terms : (R : Triple → Triple → Type 0) (ts : List (Term Triple M)) (q : Option (Term Triple (Label → Label))) → AllStand R D (map (with_maps make) ts) (list_term q) → (t t' : Term Triple M) (us : List (Term Triple M)) → ts ≡ t ∷ t' ∷ us → ⊥
  few_terms R ts None s t t' us e = subst (λ ts. AllStand R D (map (with_maps make) ts) []) e s
  few_terms R ts (Some q) s t t' us e = (subst (λ ts. AllStand R D (map (with_maps make) ts) (q ∷ [])) e s).1

  pub one_term : (second : OutMachine A M) (p : Term Head M) (all Z : List ℕ) (g : Grown [] all (Contains Z)) (k : Option Head) (ys : List (Draft A M)) → IsFound holds make D second p all k ys → (y : Draft A M) → Contains ys y → (t t' : Term Triple M) (us : List (Term Triple M)) → terms_of y ≡ t ∷ t' ∷ us → ⊥
  one_term second p all Z g None ys found y at = let (z, in_z, s) = found.each Z (set_same all Z g) y at in few_terms SameTriple (terms_of y) None s.same_terms
  one_term second p all Z g (Some h) ys found y at = let (z, in_z, s) = found.each Z (set_same all Z g) y at in few_terms SameTriple (terms_of y) (Some z.term) s.same_terms

module _ {T A M : Type 0} (map_eq : M → M → Bool) (is_put : M → A → A → Type 0) (is_chained : M → M → M → Type 0) (fits : A → Type 0) (map_fits : M → Type 0) (map_makes : T → M → Type 0) (second : OutMachine A M) (top : Term Head M) (k : Option Head) where
  abbrev Guard : Formula A → Type 0
  Guard = GuardStands map_eq is_put is_chained fits map_fits map_makes second top k

  abbrev Map : M → Type 0
  Map = MapStands map_eq is_put is_chained fits map_fits map_makes second top k

  on_term : (P : Term Triple M → Type 0) (o : Option (WayTerm M)) (ts : List (Term Triple M)) → IsOnly ts (option_map plain_way_term o) → ((t t' : Term Triple M) (us : List (Term Triple M)) → ts ≡ t ∷ t' ∷ us → ⊥) → All P ts → OnTerm (λ z. P (plain_way_term z)) o
  on_term P None ts only' few all = tt
  on_term P (Some u) [] only' few all = cc
  on_term P (Some u) (t ∷ []) only' few all = let e : plain_way_term u ≡ t = cc in subst P (sym e) (all 0 t (omega arith))
  on_term P (Some u) (t ∷ t' ∷ us) only' few all = absurd (few t t' us refl)

  pub way_made : (y : Draft A M) (w : Way A M) → IsFinished y w → ((t t' : Term Triple M) (us : List (Term Triple M)) → terms_of y ≡ t ∷ t' ∷ us → ⊥) → DraftStands map_eq is_put is_chained fits map_fits map_makes second top k y → WayIsMade map_eq is_put is_chained fits map_fits map_makes second top k w
  way_made y w f few s = record {
    guard = subst (EveryAtom fits) (sym f.guard) (every_of fits (guards_of y) (λ g at. (all_at Guard (guards_of y) g s.guards at).0));
    atoms = subst (EveryAtom (IsPutAtom map_eq is_put is_chained fits map_fits map_makes second top)) (sym f.guard) (every_of (IsPutAtom map_eq is_put is_chained fits map_fits map_makes second top) (guards_of y) (λ g at. (all_at Guard (guards_of y) g s.guards at).1));
    maps = on_term (EveryMap map_fits) w.term (terms_of y) f.same_term few (all_of (EveryMap map_fits) (terms_of y) (λ t at n by. (all_at (EveryMap Map) (terms_of y) t s.maps at n by).0));
    sources = on_term (EveryMap (IsRunMap map_eq is_put is_chained fits map_fits map_makes second top k)) w.term (terms_of y) f.same_term few (all_of (EveryMap (IsRunMap map_eq is_put is_chained fits map_fits map_makes second top k)) (terms_of y) (λ t at n by. (all_at (EveryMap Map) (terms_of y) t s.maps at n by).1));
  }
