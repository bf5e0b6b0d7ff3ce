-- What is found of terms, nodes and picks, and where its guards and maps come from.
use Rattle.std.specs.Prelude.{◌≡◌, ◌⊎◌, ◌∷◌, ℕ, Bool, false, List, [], map, All, Contains, Option, Some, None, ⊤}
use Rattle.std.specs.Option.{option_map}
use Rattle.label_core.specs.Formula.{plain_formula}
use Rattle.model_tree.specs.Label.{Label}
use Rattle.model_tree.specs.Formula.{Formula, EveryAtom}
use Rattle.model_sttr.specs.Guards.{MakesBy}
use Rattle.model_sttr.specs.Terms.{Term, build, Parts, Occurs, with_maps}
use Rattle.model_sttr.specs.Transducer.{Head, identity, run, Sttr}
use Rattle.sttr_core.specs.Fits.{EveryMap}
use Rattle.sttr_core.specs.Machine.{OutMachine, transducer_of}
use Rattle.sttr_theory.specs.Built.{kept}
use Rattle.sttr_theory.specs.Lists.{pairs, SameStates}
use Rattle.sttr_theory.specs.Triples.{Triple}
use Rattle.sttr_theory.specs.Ways.{WayOf, joined, guarded, second_of, size, uses, over_term, over_parts, free_ways, rest_ways, gives_ways, gives_at}
use Rattle.sttr_run.specs.Drafts.{AreAmong, parts_of, list_of, only, no_terms, all_say, guards_of, terms_of, NeverHolds, SaysSame, SaysLess, Covers}
use Rattle.sttr_run.specs.Picks.{wanted_in, pick_guards, pick_term, wants_of, fired_term}
use Rattle.sttr_run.specs.Runs.{OnTerm, IsPutAtom, IsRunMap}
use Rattle.sttr_run.specs.Sources.{HasMap, GivesChild}
use Rattle.sttr_run.specs.Sets.{AreEach}
use Rattle.sttr_run.specs.declared.drafts.Draft.{Draft}
use Rattle.sttr_run.specs.declared.picks.Fired.{Fired}
use Rattle.sttr_run.specs.declared.picks.Pick.{Pick}

-- the maps of the term stand in the other one
abbrev pub IsWithin : {H K M : Type 0} → Term H M → Term K M → Type 0
IsWithin {H} {K} {M} top term = (n : M) → MakesBy term n → MakesBy top n

-- a node of the term
pub record IsNodeIn {M : Type 0} (top : Term Head M) (m : M) (parts : List (Term Head M)) : Type 0 where
  pub label : MakesBy top m
  pub within : All (IsWithin top) parts

module _ {A M : Type 0} (second : OutMachine A M) where
  -- the guard of a rule of the lookahead, or of a state
  abbrev pub IsGuardOf : Formula A → Type 0
  IsGuardOf g =
      ((those : List _) × Contains second.looks.rules those × (r : _) × Contains those r × (r.guard ≡ g))
      ⊎ ((those : List _) × Contains second.rules those × (r : _) × Contains those r × (r.rule.guard ≡ g))

  -- the term of a rule of a state
  abbrev pub IsTermOf : Term Head M → Type 0
  IsTermOf t = (those : List _) × Contains second.rules those × (r : _) × Contains those r × (r.term ≡ t)

  -- the term's maps are the second's, and it gives a child as it is only where the second does
  pub record MayRun (t : Term Head M) : Type 0 where
    pub maps : (n : M) → MakesBy t n → HasMap second n
    pub same : (j : ℕ) → Occurs identity j t → GivesChild second

  -- the whole is given as it is, or the second gives children so
  abbrev pub MayKeep : Option Head → Type 0
  MayKeep k = (k ≡ Some identity) ⊎ GivesChild second

  abbrev pub HeadMayRun : Option Head → Head → Type 0
  HeadMayRun k identity = MayKeep k
  HeadMayRun k (run q) = ⊤

  -- a map of the second, or none where something may be kept
  abbrev pub MayFollow : Option Head → Option M → Type 0
  MayFollow k None = MayKeep k
  MayFollow k (Some n) = HasMap second n

module _ {T A M : Type 0} (map_eq : M → M → Bool) (is_put : M → A → A → Type 0) (is_chained : M → M → M → Type 0) (fits : A → Type 0) (map_fits : M → Type 0) (map_makes : T → M → Type 0) (second : OutMachine A M) (top : Term Head M) (k : Option Head) where
  -- atoms and maps fit, and come from the term and the second
  abbrev pub GuardStands : Formula A → Type 0
  GuardStands g = EveryAtom fits g × EveryAtom (IsPutAtom map_eq is_put is_chained fits map_fits map_makes second top) g

  abbrev pub MapStands : M → Type 0
  MapStands n = map_fits n × IsRunMap map_eq is_put is_chained fits map_fits map_makes second top k n

  pub record DraftStands (y : Draft A M) : Type 0 where
    pub guards : All GuardStands (guards_of y)
    pub maps : All (EveryMap MapStands) (terms_of y)

  pub record FiredStands (f : Fired A M) : Type 0 where
    pub guard : GuardStands (plain_formula f.guard)
    pub term : OnTerm (IsTermOf second) (fired_term f)

  pub record PickStands (x : Pick A M) : Type 0 where
    pub guards : All GuardStands (pick_guards x)
    pub term : OnTerm (IsTermOf second) (pick_term x)

module _ {M : Type 0} (make : M → Label → Label) where
  -- what the map makes, and the other one of that
  abbrev pub chained : M → Option M → Label → Label
  chained m None l = make m l
  chained m (Some n) l = make n (make m l)

module _ {A M : Type 0} (make : M → Label → Label) (D : Label → Type 0) (Stands : M → Type 0) (c : ℕ) (label : Label → Label) where
  -- a node over the draft's terms, with a map that makes this label
  pub record IsNodeOver (row y : Draft A M) : Type 0 where
    pub same_guards : guards_of y ≡ guards_of row
    pub same_demands : y.demands.items ≡ row.demands.items
    pub label_map : M
    pub stands : Stands label_map
    pub makes : (l : Label) → D l → make label_map l ≡ label l
    pub node : terms_of y ≡ build c label_map (parts_of (terms_of row)) ∷ []

  abbrev pub AreNodesOver : List (Draft A M) → List (Draft A M) → Type 0
  AreNodesOver = AreEach IsNodeOver

-- whether there is a term and it uses the child
abbrev pub used_by : {L : Type 0} → Option (Term Head (L → L)) → ℕ → Bool
used_by None j = false
used_by (Some t) j = uses j t

module _ {L : Type 0} (g : Sttr L) (c : ℕ) (m : L → L) (ps : Parts Head (L → L)) where
  -- the ways of a pick at a node: of the term, if there is one, and of the node as it is otherwise
  abbrev pub pick_ways : Option (Term Head (L → L)) → (ℕ → List ℕ) → List (WayOf L (Term Triple (L → L)))
  pick_ways None E = over_term m (λ h j. gives_at g j ps (E j) h) (build c (λ l. l) (kept 0 (size ps)))
  pick_ways (Some t) E = pairs (joined second_of) (rest_ways g (λ j. uses j t) ps E) (over_term m (λ h j. gives_at g j ps (E j) h) t)

module _ {A M : Type 0} (holds : A → Label → Bool) (make : M → Label → Label) (D : Label → Type 0) where
  -- the lists of each pick, with its guards
  pub record CoversPicks {X : Type 0} (terms : X → List (Term Triple (Label → Label))) (ways : Option (Term Head M) → (ℕ → List ℕ) → List (WayOf Label X)) (xs : List (Pick A M)) (ys : List (Draft A M)) : Type 0 where
    pub each : (y : Draft A M) → Contains ys y → (x : Pick A M) × Contains xs x
        × ((E : ℕ → List ℕ) → ((j : ℕ) → SameStates (wants_of x j) (E j)) → (z : WayOf Label X) × Contains (ways (pick_term x) E) z × SaysSame holds make D terms y (guarded (all_say holds (pick_guards x)) z))
    pub all : (x : Pick A M) → Contains xs x → (E : ℕ → List ℕ) → ((j : ℕ) → AreAmong (wants_of x j) (E j)) → (z : WayOf Label X) → Contains (ways (pick_term x) E) z
        → NeverHolds holds make D terms (guarded (all_say holds (pick_guards x)) z) ⊎ ((y : Draft A M) × Contains ys y × SaysLess holds make D terms y (guarded (all_say holds (pick_guards x)) z))

  module _ (second : OutMachine A M) where
    -- what is found of a term
    abbrev pub IsFree : Term Head M → List ℕ → List (Draft A M) → Type 0
    IsFree p all ys = Covers holds make D no_terms (SameStates all) (AreAmong all) (free_ways (transducer_of holds make second) (with_maps make p)) ys

    abbrev pub IsGiven : Term Head M → List ℕ → Head → List (Draft A M) → Type 0
    IsGiven p all h ys = Covers holds make D only (SameStates all) (AreAmong all) (λ Z. gives_ways (transducer_of holds make second) (with_maps make p) Z h) ys

    -- of parts of which this is wanted
    module _ (parts : List (Term Head M)) where
      abbrev pub meant_parts : Parts Head (Label → Label)
      meant_parts = parts_of (map (with_maps make) parts)

      module _ (demands : List (List (List ℕ))) where
        abbrev pub AreWanted : (ℕ → List ℕ) → Type 0
        AreWanted E = (j : ℕ) → SameStates (wanted_in demands j) (E j)

        abbrev pub AreMoreWanted : (ℕ → List ℕ) → Type 0
        AreMoreWanted E = (j : ℕ) → AreAmong (wanted_in demands j) (E j)

        abbrev pub IsRest : Option (Term Head M) → List (Draft A M) → Type 0
        IsRest t ys = Covers holds make D no_terms AreWanted AreMoreWanted (λ E. rest_ways (transducer_of holds make second) (used_by (option_map (with_maps make) t)) meant_parts E) ys

        abbrev pub IsAt : ℕ → Head → List (Draft A M) → Type 0
        IsAt j h ys = Covers holds make D only AreWanted AreMoreWanted (λ E. gives_at (transducer_of holds make second) j meant_parts (E j) h) ys

        abbrev pub IsOver : M → Term Head M → List (Draft A M) → Type 0
        IsOver m t ys = Covers holds make D only AreWanted AreMoreWanted (λ E. over_term (make m) (λ h j. gives_at (transducer_of holds make second) j meant_parts (E j) h) (with_maps make t)) ys

        abbrev pub AreOver : M → List (Term Head M) → List (Draft A M) → Type 0
        AreOver m ts ys = Covers holds make D list_of AreWanted AreMoreWanted (λ E. over_parts (make m) (λ h j. gives_at (transducer_of holds make second) j meant_parts (E j) h) (parts_of (map (with_maps make) ts))) ys

        abbrev pub AreKept : M → List (Draft A M) → Type 0
        AreKept m ys = Covers holds make D list_of AreWanted AreMoreWanted (λ E. over_parts (make m) (λ h j. gives_at (transducer_of holds make second) j meant_parts (E j) h) (kept 0 (size meant_parts))) ys

      -- of picks
      abbrev pub AreFreePicks : List (Pick A M) → List (Draft A M) → Type 0
      AreFreePicks = CoversPicks no_terms (λ t E. rest_ways (transducer_of holds make second) (λ j. false) meant_parts E)

      abbrev pub AreKeptPicks : ℕ → M → List (Pick A M) → List (Draft A M) → Type 0
      AreKeptPicks c m = CoversPicks only (λ t E. pick_ways (transducer_of holds make second) c (make m) meant_parts None E)

      abbrev pub AreGivenPicks : ℕ → M → List (Pick A M) → List (Draft A M) → Type 0
      AreGivenPicks c m = CoversPicks only (λ t E. pick_ways (transducer_of holds make second) c (make m) meant_parts (option_map (with_maps make) t) E)

    -- what is found of the whole
    abbrev pub IsFound : Term Head M → List ℕ → Option Head → List (Draft A M) → Type 0
    IsFound p all None ys = IsFree p all ys
    IsFound p all (Some h) ys = IsGiven p all h ys
