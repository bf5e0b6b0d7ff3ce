-- Ways that say the same of labels of D, as those that code makes and those of the lists do.
use Rattle.std.specs.Prelude.{◌≡◌, ℕ, List, [], get_or, Option, Some, None, ⊤}
use Rattle.model_sttr.specs.Terms.{Term, Parts, StandsFor, StandFor}
use Rattle.model_sttr.specs.Transducer.{Head, Sttr}
use Rattle.sttr_theory.specs.Lists.{Match, SameStates}
use Rattle.sttr_theory.specs.Covers.{Covers, Never}
use Rattle.sttr_theory.specs.Triples.{Triple, Way, LookName, of_first, of_second, middle, asked}
use Rattle.sttr_theory.specs.Ways.{WayOf, Pick, ways}

-- the same state, or the same states behind the same state of the first
abbrev pub SameName : LookName → LookName → Type 0
SameName (of_first s) n = of_first s ≡ n
SameName (of_second s) n = of_second s ≡ n
SameName (middle q Z) n = (W : List ℕ) × (middle q W ≡ n) × SameStates Z W

-- the same is asked, in whatever order, and however often
abbrev pub SameAsked : List Triple → List Triple → Type 0
SameAsked ds es = Match SameName (asked ds) (asked es)

abbrev pub SameTriple : Triple → Triple → Type 0
SameTriple d e = (d.first ≡ e.first) × SameStates d.all e.all × (d.second ≡ e.second)

module _ {L : Type 0} (D : L → Type 0) where
  -- terms that call the same triples, and parts of terms; and where there is no term
  abbrev pub SameTerms : Term Triple (L → L) → Term Triple (L → L) → Type 0
  SameTerms = StandsFor SameTriple D

  abbrev pub SameParts : Parts Triple (L → L) → Parts Triple (L → L) → Type 0
  SameParts = StandFor SameTriple D

  abbrev pub SameTerm : Option (Term Triple (L → L)) → Option (Term Triple (L → L)) → Type 0
  SameTerm None None = ⊤
  SameTerm None (Some q) = ⊥
  SameTerm (Some p) None = ⊥
  SameTerm (Some p) (Some q) = SameTerms p q

  pub record AlikeWay (y z : Way L) : Type 0 where
    pub same_guard : (l : L) → D l → y.guard l ≡ z.guard l
    pub same_demands : (j : ℕ) → SameAsked (get_or y.demands j []) (get_or z.demands j [])
    pub same_term : SameTerm y.term z.term

  -- ways with terms of any kind, where P is between terms that are the same
  pub record AlikeOf {X Y : Type 0} (P : X → Y → Type 0) (y : WayOf L X) (z : WayOf L Y) : Type 0 where
    pub same_guard : (l : L) → D l → y.guard l ≡ z.guard l
    pub same_demands : (j : ℕ) → SameAsked (get_or y.demands j []) (get_or z.demands j [])
    pub same_term : P y.term z.term

  -- each way of the list is one of the others, which are there but for those that never hold
  abbrev pub CoverWays : {X Y : Type 0} → (X → Y → Type 0) → List (WayOf L X) → List (WayOf L Y) → Type 0
  CoverWays P = Covers (AlikeOf P) (λ z. Never D z.guard)

  -- so of the ways of a triple over a term
  abbrev pub AreMadeWays : Sttr L → Term Head (L → L) → Triple → List (Way L) → Type 0
  AreMadeWays g p x ys = Covers AlikeWay (λ z. Never D z.guard) ys (ways g p x)

  -- picked rules, with the guard at a label of D that m makes the middle label of
  pub record AlikePick (m : L → L) (x z : Pick L) : Type 0 where
    pub same_guard : (l : L) → D l → x.guard l ≡ z.guard (m l)
    pub same_wants : (j : ℕ) → SameStates (x.wants j) (z.wants j)

  abbrev pub CoverPicks : (L → L) → List (Pick L) → List (Pick L) → Type 0
  CoverPicks m = Covers (AlikePick m) (λ z. Never D (λ l. z.guard (m l)))
