-- Drafts whose guards and maps come from the term and the second.
use Rattle.std.proofs.Common.{ℕ, ◌≡◌, inl, inr, Bool, true, List, [], ◌∷◌, ◌++◌, All, Contains, Option, refl, sym, subst, ◌∙◌, arith}
use Rattle.std.specs.Cmp.{IsEquivalence}
use Rattle.std.proofs.lemmas.List.Elements.{All-nil, All-cons}
use Rattle.model_tree.specs.Label.{Label}
use Rattle.model_tree.specs.Formula.{Formula}
use Rattle.model_sttr.specs.Guards.{MakesBy, MakesByOne}
use Rattle.model_sttr.specs.Terms.{Term, on, build}
use Rattle.model_sttr.specs.Transducer.{Head}
use Rattle.sttr_core.specs.Fits.{EveryMap}
use Rattle.sttr_core.specs.Machine.{OutMachine}
use Rattle.sttr_theory.specs.Triples.{Triple, LookName}
use Rattle.sttr_theory.proofs.Members.{there, in_single, in_either}
use Rattle.sttr_run.specs.Drafts.{parts_of, guards_of, terms_of, IsBoth, AddsProducts, AreProducts}
use Rattle.sttr_run.specs.Found.{GuardStands, MapStands, DraftStands, PickStands, AreNodesOver}
use Rattle.sttr_run.specs.Leaves.{IsLeaf}
use Rattle.sttr_run.specs.Picks.{pick_guards}
use Rattle.sttr_run.specs.Runs.{IsRunMap}
use Rattle.sttr_run.specs.declared.drafts.Draft.{Draft}
use Rattle.sttr_run.specs.declared.picks.Pick.{Pick}
use Rattle.sttr_run.proofs.Copies.{all_copies_maps}
use Rattle.sttr_run.proofs.Members.{all_at, all_of}

module _ {T A M : Type 0} (map_eq : M → M → Bool) (is_put : M → A → A → Type 0) (is_chained : M → M → M → Type 0) (fits : A → Type 0) (map_fits : M → Type 0) (map_makes : T → M → Type 0) (second : OutMachine A M) (top : Term Head M) (k : Option Head) where
  abbrev Guard : Formula A → Type 0
  Guard = GuardStands map_eq is_put is_chained fits map_fits map_makes second top k

  abbrev Map : M → Type 0
  Map = MapStands map_eq is_put is_chained fits map_fits map_makes second top k

  abbrev Stands : Draft A M → Type 0
  Stands = DraftStands map_eq is_put is_chained fits map_fits map_makes second top k

  pub leaf_stands : (j : ℕ) (names : List LookName) (ts : List (Term Triple M)) (ys : List (Draft A M)) → IsLeaf j names ts ys → All (EveryMap Map) ts → All Stands ys
  leaf_stands j names ts ys (y, is, leaf) maps =
      all_of Stands ys (λ z at. subst Stands (in_single y z (subst (λ zs. Contains zs z) is at)) (record { guards = subst (All Guard) (sym leaf.no_guards) (All-nil Guard); maps = subst (All (EveryMap Map)) (sym leaf.same_terms) maps }))

  pub no_maps : All (EveryMap {H = Triple} Map) []
  no_maps = All-nil (EveryMap Map)

  pub call_maps : (x : Triple) (j : ℕ) → All (EveryMap {H = Triple} Map) (on x j ∷ [])
  call_maps x j = All-cons (EveryMap Map) (on x j) [] (λ m by. absurd by) (All-nil (EveryMap Map))

  module _ (equal : IsEquivalence map_eq) (fits_too : (m n : M) → map_eq m n ≡ true → map_fits m → map_fits n) (makes_too : (made : T) (m n : M) → map_eq m n ≡ true → map_makes made m → map_makes made n) where
    runs_too : (m n : M) → map_eq n m ≡ true → IsRunMap map_eq is_put is_chained fits map_fits map_makes second top k n → IsRunMap map_eq is_put is_chained fits map_fits map_makes second top k m
    runs_too m n e (inl (may, o, by, same)) = inl (may, o, by, equal.congr o n m same ∙ e)
    runs_too m n e (inr (o, by, a, has, c, chained, same, makes)) = inr (o, by, a, has, c, chained, equal.congr c n m same ∙ e, λ made x. makes_too made n m e (makes made x))

    closed : (m n : M) → map_eq m n ≡ true → Map n → Map m
    closed m n e s = let back = sym (equal.symm m n) ∙ e in (fits_too n m back s.0, runs_too m n back s.1)

    both_stand : (a b y : Draft A M) → IsBoth map_eq a b y → Stands a → Stands b → Stands y
    both_stand a b y is s t = record {
      guards = subst (All Guard) (sym is.guards) (all_of Guard (guards_of a ++ guards_of b) (λ g at. elim (in_either (guards_of a) (guards_of b) g at) [ inl l ↦ all_at Guard (guards_of a) g s.guards l | inr r ↦ all_at Guard (guards_of b) g t.guards r ]));
      maps = all_copies_maps map_eq Map closed (terms_of y) (terms_of a ++ terms_of b) is.copies
          (all_of (EveryMap Map) (terms_of a ++ terms_of b) (λ p at. elim (in_either (terms_of a) (terms_of b) p at) [ inl l ↦ all_at (EveryMap Map) (terms_of a) p s.maps l | inr r ↦ all_at (EveryMap Map) (terms_of b) p t.maps r ]));
    }

    pub products_stand : (firsts seconds ys : List (Draft A M)) → AreProducts map_eq firsts seconds ys → All Stands firsts → All Stands seconds → All Stands ys
    products_stand firsts seconds ys p s t = all_of Stands ys (λ y at. let (a, in_a, b, in_b, is) = p.each y at in both_stand a b y is (all_at Stands firsts a s in_a) (all_at Stands seconds b t in_b))

    -- the guards of a pick before ways
    pub guarded_stand : (x : Pick A M) (first : Draft A M) (ws old new : List (Draft A M)) → guards_of first ≡ pick_guards x → terms_of first ≡ [] → AddsProducts map_eq first ws old new → PickStands map_eq is_put is_chained fits map_fits map_makes second top k x → All Stands ws → All Stands old → All Stands new
    guarded_stand x first ws old new gs none adds s t u = all_of Stands new (λ y at. elim (adds.each y at) [
      | inl o ↦ all_at Stands old y u o
      | inr found ↦ (let (b, in_ws, is) = found in both_stand first b y is (record { guards = subst (All Guard) (sym gs) s.guards; maps = subst (All (EveryMap Map)) (sym none) (All-nil (EveryMap Map)) }) (all_at Stands ws b t in_ws))
    ])

  makes_one : (ts : List (Term Triple M)) (n : M) → MakesByOne (parts_of ts) n → (t : Term Triple M) × Contains ts t × MakesBy t n
  makes_one [] n by = absurd by
  makes_one (t ∷ ts) n (inl by) = (t, (0, omega arith, refl), by)
  makes_one (t ∷ ts) n (inr by) = let (u, at, b) = makes_one ts n by in (u, there t ts u at, b)

  node_maps : (c : ℕ) (m : M) (ts : List (Term Triple M)) → Map m → All (EveryMap Map) ts → EveryMap Map (build c m (parts_of ts))
  node_maps c m ts s all n (inl e) = subst Map e s
  node_maps c m ts s all n (inr by) = let (t, at, b) = makes_one ts n by in all_at (EveryMap Map) ts t all at n b

  pub nodes_stand : (make : M → Label → Label) (D : Label → Type 0) (c : ℕ) (label : Label → Label) (rows ys : List (Draft A M)) → AreNodesOver make D Map c label rows ys → All Stands rows → All Stands ys
  nodes_stand make D c label rows ys nodes s = all_of Stands ys (λ y at.
      let (row, in_rows, is) = nodes.each y at in
      let r = all_at Stands rows row s in_rows in
      record {
        guards = subst (All Guard) (sym is.same_guards) r.guards;
        maps = subst (All (EveryMap Map)) (sym is.node) (All-cons (EveryMap Map) (build c is.label_map (parts_of (terms_of row))) [] (node_maps c is.label_map (terms_of row) is.stands r.maps) (All-nil (EveryMap Map)));
      })
