-- Ways as they are made, and the lists of ways that they cover.
use Rattle.std.specs.Prelude.{◌≡◌, ◌⊎◌, ◌↔◌, ◌++◌, ℕ, Bool, true, false, List, [], ◌∷◌, map, get_or, Contains, ⊤}
use Rattle.std.specs.List.{list_all}
use Rattle.model_tree.specs.Label.{Label}
use Rattle.model_tree.specs.Formula.{Formula, formula_holds}
use Rattle.label_core.specs.Formula.{plain_formula}
use Rattle.model_sttr.specs.Terms.{Term, on, build, Parts, no_parts, part, with_maps, StandsFor}
use Rattle.sttr_theory.specs.Triples.{Triple, LookName, of_first, of_second, middle, asked}
use Rattle.sttr_theory.specs.Alike.{SameName, SameTriple}
use Rattle.sttr_theory.specs.Ways.{WayOf}
use Rattle.sttr_run.specs.Plain.{plain_way_term}
use Rattle.sttr_run.specs.Sets.{Adds, ArePairs}
use Rattle.sttr_run.specs.declared.drafts.Ask.{Ask}
use Rattle.sttr_run.specs.declared.drafts.Ask.TheVariants.{State, Output}
use Rattle.sttr_run.specs.declared.drafts.Demand.{Demand}
use Rattle.sttr_run.specs.declared.drafts.Draft.{Draft}

-- each of the states is one of the others
abbrev pub AreAmong : List ℕ → List ℕ → Type 0
AreAmong Z W = (s : ℕ) → Contains Z s → Contains W s

-- a name that is met where the other is
abbrev pub FollowsFrom : LookName → LookName → Type 0
FollowsFrom (of_first s) n = of_first s ≡ n
FollowsFrom (of_second s) n = of_second s ≡ n
FollowsFrom (middle q Z) n = (W : List ℕ) × (middle q W ≡ n) × AreAmong Z W

-- the same, with fewer demands
abbrev pub IsFreer : Triple → Triple → Type 0
IsFreer d e = (d.first ≡ e.first) × AreAmong d.all e.all × (d.second ≡ e.second)

abbrev pub name_of : Ask → LookName
name_of (State s) = of_second s
name_of (Output q all) = middle q all.items

-- the name is asked of the child
abbrev pub IsAskedIn : List Demand → ℕ → LookName → Type 0
IsAskedIn demands j n = (d : Demand) × Contains demands d × (d.child ≡ j) × (name_of d.ask ≡ n)

-- the new demands ask what the old ones and the others do
abbrev pub Asks : List Demand → List Demand → List Demand → Type 0
Asks new old others = (j : ℕ) (n : LookName) → IsAskedIn new j n ↔ (IsAskedIn old j n ⊎ IsAskedIn others j n)

-- the parts of a term
abbrev pub parts_of : {H M : Type 0} → List (Term H M) → Parts H M
parts_of [] = no_parts
parts_of (p ∷ ps) = part p (parts_of ps)

abbrev pub list_of : {H M : Type 0} → Parts H M → List (Term H M)
list_of no_parts = []
list_of (part p ps) = p ∷ list_of ps

abbrev pub only : {X : Type 0} → X → List X
only x = x ∷ []

abbrev pub no_terms : {X : Type 0} → ⊤ → List X
no_terms x = []

module _ {H K L : Type 0} (R : H → K → Type 0) (D : L → Type 0) where
  -- term by term
  abbrev pub AllStand : List (Term H (L → L)) → List (Term K (L → L)) → Type 0
  AllStand [] [] = ⊤
  AllStand [] (q ∷ qs) = ⊥
  AllStand (p ∷ ps) [] = ⊥
  AllStand (p ∷ ps) (q ∷ qs) = StandsFor R D p q × AllStand ps qs

module _ {A : Type 0} (holds : A → Label → Bool) where
  -- each of the formulas holds of the label
  abbrev pub all_say : List (Formula A) → Label → Bool
  all_say guards l = list_all (λ g. formula_holds (λ a. holds a l) g) guards

module _ {H M : Type 0} (eq : M → M → Bool) where
  abbrev mutual
    -- the same term with equal maps
    pub IsCopy : Term H M → Term H M → Type 0
    IsCopy (on h j) (on k i) = (h ≡ k) × (j ≡ i)
    IsCopy (on h j) (build d n qs) = ⊥
    IsCopy (build c m ps) (on k i) = ⊥
    IsCopy (build c m ps) (build d n qs) = (c ≡ d) × (eq m n ≡ true) × AreCopies ps qs

    pub AreCopies : Parts H M → Parts H M → Type 0
    AreCopies no_parts no_parts = ⊤
    AreCopies no_parts (part q qs) = ⊥
    AreCopies (part p ps) no_parts = ⊥
    AreCopies (part p ps) (part q qs) = IsCopy p q × AreCopies ps qs

  -- term by term
  abbrev pub AllCopies : List (Term H M) → List (Term H M) → Type 0
  AllCopies [] [] = ⊤
  AllCopies [] (q ∷ qs) = ⊥
  AllCopies (p ∷ ps) [] = ⊥
  AllCopies (p ∷ ps) (q ∷ qs) = IsCopy p q × AllCopies ps qs

  -- copies of the others came to the old ones
  abbrev pub AddsCopies : List (Term H M) → List (Term H M) → List (Term H M) → Type 0
  AddsCopies new old others = (made : List (Term H M)) × (new ≡ old ++ made) × AllCopies made others

module _ {A M : Type 0} where
  abbrev pub guards_of : Draft A M → List (Formula A)
  guards_of y = map plain_formula y.guards.items

  abbrev pub terms_of : Draft A M → List (Term Triple M)
  terms_of y = map plain_way_term y.terms.items

  -- both ways at once
  pub record IsBoth (eq : M → M → Bool) (a b y : Draft A M) : Type 0 where
    pub guards : guards_of y ≡ guards_of a ++ guards_of b
    pub asks : Asks y.demands.items a.demands.items b.demands.items
    pub copies : AllCopies eq (terms_of y) (terms_of a ++ terms_of b)

  -- to the old ones came each of these with the first
  abbrev pub AddsProducts : (M → M → Bool) → Draft A M → List (Draft A M) → List (Draft A M) → List (Draft A M) → Type 0
  AddsProducts eq a = Adds (IsBoth eq a)

  -- one of the first and one of the second, in each way
  abbrev pub AreProducts : (M → M → Bool) → List (Draft A M) → List (Draft A M) → List (Draft A M) → Type 0
  AreProducts eq = ArePairs (IsBoth eq)

module _ {A M : Type 0} (holds : A → Label → Bool) (make : M → Label → Label) where
  -- the terms over labels
  abbrev pub terms_at : Draft A M → List (Term Triple (Label → Label))
  terms_at y = map (with_maps make) (terms_of y)

  module _ (D : Label → Type 0) {X : Type 0} (terms : X → List (Term Triple (Label → Label))) where
    -- the way holds of no label
    abbrev pub NeverHolds : WayOf Label X → Type 0
    NeverHolds z = (l : Label) → D l → z.guard l ≡ false

    -- the draft says the same as the way
    pub record SaysSame (y : Draft A M) (z : WayOf Label X) : Type 0 where
      pub guard : (l : Label) → D l → all_say holds (guards_of y) l ≡ z.guard l
      pub asks : (j : ℕ) (n : LookName) → IsAskedIn y.demands.items j n → (m : LookName) × Contains (asked (get_or z.demands j [])) m × SameName n m
      pub asked_of : (j : ℕ) (m : LookName) → Contains (asked (get_or z.demands j [])) m → (n : LookName) × IsAskedIn y.demands.items j n × SameName n m
      pub same_terms : AllStand SameTriple D (terms_at y) (terms z.term)

    -- what the draft says follows from the way
    pub record SaysLess (y : Draft A M) (z : WayOf Label X) : Type 0 where
      pub guard : (l : Label) → D l → z.guard l ≡ true → all_say holds (guards_of y) l ≡ true
      pub asks : (j : ℕ) (n : LookName) → IsAskedIn y.demands.items j n → (m : LookName) × Contains (asked (get_or z.demands j [])) m × FollowsFrom n m
      pub freer_terms : AllStand IsFreer D (terms_at y) (terms z.term)

    -- of lists of ways by what is demanded: each draft says the same as a way, where the same is demanded, and from each way
    -- that can hold follows a draft, where no less is
    pub record Covers {I : Type 0} (Same More : I → Type 0) (ways : I → List (WayOf Label X)) (ys : List (Draft A M)) : Type 0 where
      pub each : (i : I) → Same i → (y : Draft A M) → Contains ys y → (z : WayOf Label X) × Contains (ways i) z × SaysSame y z
      pub all : (i : I) → More i → (z : WayOf Label X) → Contains (ways i) z → NeverHolds z ⊎ ((y : Draft A M) × Contains ys y × SaysLess y z)
