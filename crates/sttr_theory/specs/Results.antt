-- What the operations on transducers owe, once their results are built.
use Rattle.std.specs.Prelude.{◌≡◌, ◌⊎◌, ◌<◌, ◌&&◌, ℕ, suc, Bool, true, List, [], ◌∷◌, ◌++◌, get_or, length, Some, Contains}
use Rattle.model_sta.specs.Automaton.{Rule, rules_of}
use Rattle.model_sta.specs.Sets.{Fits}
use Rattle.model_sta.specs.Told.{AreOwn}
use Rattle.model_sta.specs.Operations.{Auto}
use Rattle.model_sttr.specs.Terms.{StandsFor}
use Rattle.model_sttr.specs.Transducer.{Head, identity, run, OutRule, Sttr, Trans, out_rules, IsHead, AllLinear, IsFunctionalOn, SttrFits}
use Rattle.model_sttr.specs.Operations.{asking, IsDomain, IsPreImage, IsRestriction, IsOutRestriction, IsComposition, DomainKeepsGuards, PreImageKeepsGuards, RestrictionKeepsGuards, OutRestrictionKeepsGuards, CompositionKeepsGuards, KeepsMaps, ChainsMaps}
use Rattle.sttr_theory.specs.Lists.{IsAt, Match, pairs}
use Rattle.sttr_theory.specs.Covers.{Covers, Never}
use Rattle.sttr_theory.specs.Triples.{Triple, LookName, of_first, of_second, middle, firsts, seconds}
use Rattle.sttr_theory.specs.Built.{IsMadeRule, IsBuiltLook, IsBuilt, LookNameFits, TripleFits}

-- each name fits
abbrev pub AreNames : {X : Type 0} → (X → Type 0) → List X → Type 0
AreNames {X} F names = (i : ℕ) (x : X) → IsAt names i x → F x

module _ {L : Type 0} where
  -- a state of the lookahead of f or of a
  abbrev pub OfEither : Trans L → Auto L → LookName → Type 0
  OfEither f a (of_first s) = s < length f.sttr.looks
  OfEither f a (of_second s) = s < length a.rules
  OfEither f a (middle q all) = ⊥

  -- the head is one of f's, and stands for itself
  abbrev pub IsOldHead : Sttr L → Head → Head → Type 0
  IsOldHead f h k = (h ≡ k) × IsHead f k

  -- labels that a test tells
  abbrev pub Told : (L → Bool) → L → Type 0
  Told d l = d l ≡ true

module _ {L : Type 0} (ranks : List ℕ) (D : L → Type 0) where
  -- an automaton that is built for the trees with an output in all of these
  pub record IsBuiltPreImage (f : Trans L) (rules : List (List (Rule L))) (all : List ℕ) (names : List LookName) (c : Auto L) : Type 0 where
    pub built : IsBuiltLook ranks D f.sttr (asking rules) names c.rules
    pub fit : AreNames (LookNameFits f.sttr (asking rules)) names
    pub start : IsAt names c.start (middle f.start all)

  -- a transducer that is built for a pair of transducers, by this triple
  pub record IsBuiltTrans (f g : Sttr L) (Second : Head → Type 0) (x : Triple) (looks : List LookName) (names : List Triple) (c : Trans L) : Type 0 where
    pub built : IsBuilt ranks D f g looks names c.sttr
    pub looks_fit : AreNames (LookNameFits f g) looks
    pub fit : AreNames (TripleFits f g Second) names
    pub start : IsAt names c.start x

  abbrev pub IsBuiltOutRestriction : Trans L → Auto L → List LookName → List Triple → Trans L → Type 0
  IsBuiltOutRestriction f a = IsBuiltTrans f.sttr (asking a.rules) (λ h. h ≡ identity) (record { first = run f.start; all = a.start ∷ []; second = Some identity })

  abbrev pub IsBuiltComposition : Trans L → Trans L → List LookName → List Triple → Trans L → Type 0
  IsBuiltComposition f g = IsBuiltTrans f.sttr g.sttr (IsHead g.sttr) (record { first = run f.start; all = []; second = Some (run g.start) })

  -- a rule of f whose demands have other numbers
  abbrev pub IsOldRule : Trans L → Auto L → List LookName → OutRule L → OutRule L → Type 0
  IsOldRule f a looks r ρ =
      IsMadeRule ranks D f.sttr (asking a.rules) looks r.rule ρ.rule.constructor ρ.rule.guard (λ j. firsts (get_or ρ.rule.demands j []))
      × StandsFor (IsOldHead f.sttr) D r.term ρ.term

  -- a rule of f and one of a in one
  abbrev pub IsJointRule : Trans L → Auto L → List LookName → OutRule L → OutRule L → Rule L → Type 0
  IsJointRule f a looks r ρ σ =
      IsMadeRule ranks D f.sttr (asking a.rules) looks r.rule ρ.rule.constructor (λ l. ρ.rule.guard l && σ.guard l) (λ j. firsts (get_or ρ.rule.demands j []) ++ seconds (get_or σ.demands j []))
      × StandsFor (IsOldHead f.sttr) D r.term ρ.term

  -- so far: one rule for each rule of f and each of a with the same constructor, but for those that never hold together
  abbrev pub IsJointOf : Trans L → Auto L → List LookName → OutRule L → OutRule L × Rule L → Type 0
  IsJointOf f a looks r (ρ, σ) = (ρ.rule.constructor ≡ σ.constructor) × IsJointRule f a looks r ρ σ

  abbrev pub AreApart : OutRule L × Rule L → Type 0
  AreApart (ρ, σ) = ¬ (ρ.rule.constructor ≡ σ.constructor) ⊎ Never D (λ l. ρ.rule.guard l && σ.guard l)

  abbrev pub AreJointRules : Trans L → Auto L → List LookName → List (OutRule L) → List (OutRule L) → List (Rule L) → Type 0
  AreJointRules f a looks rs ρs σs = Covers (IsJointOf f a looks) AreApart rs (pairs (λ ρ σ. (ρ, σ)) ρs σs)

  -- the states of f, and one more that has its start's rules together with those of a's start, where these can hold together
  pub record IsBuiltRestriction (f : Trans L) (a : Auto L) (looks : List LookName) (c : Trans L) : Type 0 where
    pub look : IsBuiltLook ranks D f.sttr (asking a.rules) looks c.sttr.looks
    pub looks_fit : AreNames (OfEither f a) looks
    pub as_many : length c.sttr.rules ≡ suc (length f.sttr.rules)
    pub start : c.start ≡ length f.sttr.rules
    pub old : (q : ℕ) → q < length f.sttr.rules → Match (IsOldRule f a looks) (out_rules c.sttr q) (out_rules f.sttr q)
    pub only : (r : OutRule L) → Contains (out_rules c.sttr c.start) r → (ρ : OutRule L) × Contains (out_rules f.sttr f.start) ρ × (σ : Rule L) × Contains (rules_of a.rules a.start) σ × (ρ.rule.constructor ≡ σ.constructor) × IsJointRule f a looks r ρ σ
    pub all : (ρ : OutRule L) → Contains (out_rules f.sttr f.start) ρ → (σ : Rule L) → Contains (rules_of a.rules a.start) σ → ρ.rule.constructor ≡ σ.constructor → ((r : OutRule L) × Contains (out_rules c.sttr c.start) r × IsJointRule f a looks r ρ σ) ⊎ Never D (λ l. ρ.rule.guard l && σ.guard l)

-- ---- what that makes of the results

-- no condition but that the rules fit
abbrev pub DomainIsExact : Type 0 → Type 0
DomainIsExact L = (ranks : List ℕ) (d : L → Bool) (f : Trans L) (names : List LookName) (c : Auto L)
    → SttrFits f.sttr ranks → IsBuiltPreImage ranks (Told d) f [] [] names c → IsDomain (Fits ranks (Told d)) f c

abbrev pub PreImageIsExact : Type 0 → Type 0
PreImageIsExact L = (ranks : List ℕ) (d : L → Bool) (f : Trans L) (a : Auto L) (names : List LookName) (c : Auto L)
    → SttrFits f.sttr ranks → IsBuiltPreImage ranks (Told d) f a.rules (a.start ∷ []) names c → IsPreImage (Fits ranks (Told d)) f a c

abbrev pub RestrictionIsExact : Type 0 → Type 0
RestrictionIsExact L = (ranks : List ℕ) (d : L → Bool) (f : Trans L) (a : Auto L) (looks : List LookName) (c : Trans L)
    → SttrFits f.sttr ranks → IsBuiltRestriction ranks (Told d) f a looks c → IsRestriction (Fits ranks (Told d)) f a c

abbrev pub OutRestrictionIsExact : Type 0 → Type 0
OutRestrictionIsExact L = (ranks : List ℕ) (d : L → Bool) (f : Trans L) (a : Auto L) (looks : List LookName) (names : List Triple) (c : Trans L)
    → SttrFits f.sttr ranks → IsBuiltOutRestriction ranks (Told d) f a looks names c → IsOutRestriction (Fits ranks (Told d)) f a c

-- the first is functional on trees of the type, or no rule of the second uses a child twice
abbrev pub CompositionIsExact : Type 0 → Type 0
CompositionIsExact L = (ranks : List ℕ) (d : L → Bool) (f g : Trans L) (looks : List LookName) (names : List Triple) (c : Trans L)
    → SttrFits f.sttr ranks → IsFunctionalOn f.sttr (Fits ranks (Told d)) ⊎ AllLinear g.sttr → IsBuiltComposition ranks (Told d) f g looks names c
    → IsComposition (Fits ranks (Told d)) f g c

-- the rules of results fit, so that they may be arguments
abbrev pub PreImageFits : Type 0 → Type 0
PreImageFits L = (ranks : List ℕ) (d : L → Bool) (f : Trans L) (rules : List (List (Rule L))) (all : List ℕ) (names : List LookName) (c : Auto L)
    → IsBuiltPreImage ranks (Told d) f rules all names c → AreOwn c.rules

abbrev pub CompositionFits : Type 0 → Type 0
CompositionFits L = (ranks : List ℕ) (d : L → Bool) (f g : Trans L) (looks : List LookName) (names : List Triple) (c : Trans L)
    → SttrFits f.sttr ranks → IsBuiltComposition ranks (Told d) f g looks names c → SttrFits c.sttr ranks

abbrev pub OutRestrictionFits : Type 0 → Type 0
OutRestrictionFits L = (ranks : List ℕ) (d : L → Bool) (f : Trans L) (a : Auto L) (looks : List LookName) (names : List Triple) (c : Trans L)
    → SttrFits f.sttr ranks → IsBuiltOutRestriction ranks (Told d) f a looks names c → SttrFits c.sttr ranks

abbrev pub RestrictionFits : Type 0 → Type 0
RestrictionFits L = (ranks : List ℕ) (d : L → Bool) (f : Trans L) (a : Auto L) (looks : List LookName) (c : Trans L)
    → SttrFits f.sttr ranks → IsBuiltRestriction ranks (Told d) f a looks c → SttrFits c.sttr ranks

-- no rule of a result uses a child twice where no rule of the arguments does
abbrev pub CompositionIsLinear : Type 0 → Type 0
CompositionIsLinear L = (ranks : List ℕ) (d : L → Bool) (f g : Trans L) (looks : List LookName) (names : List Triple) (c : Trans L)
    → IsBuiltComposition ranks (Told d) f g looks names c → AllLinear f.sttr → AllLinear g.sttr → AllLinear c.sttr

abbrev pub OutRestrictionIsLinear : Type 0 → Type 0
OutRestrictionIsLinear L = (ranks : List ℕ) (d : L → Bool) (f : Trans L) (a : Auto L) (looks : List LookName) (names : List Triple) (c : Trans L)
    → IsBuiltOutRestriction ranks (Told d) f a looks names c → AllLinear f.sttr → AllLinear c.sttr

abbrev pub RestrictionIsLinear : Type 0 → Type 0
RestrictionIsLinear L = (ranks : List ℕ) (d : L → Bool) (f : Trans L) (a : Auto L) (looks : List LookName) (c : Trans L)
    → IsBuiltRestriction ranks (Told d) f a looks c → AllLinear f.sttr → AllLinear c.sttr

-- labels agree on a result's guards, where they agree on those of the arguments that are tested of them
abbrev pub BuiltDomainKeepsGuards : Type 0 → Type 0
BuiltDomainKeepsGuards L = (ranks : List ℕ) (d : L → Bool) (f : Trans L) (names : List LookName) (c : Auto L)
    → IsBuiltPreImage ranks (Told d) f [] [] names c → DomainKeepsGuards (Told d) f c

abbrev pub BuiltPreImageKeepsGuards : Type 0 → Type 0
BuiltPreImageKeepsGuards L = (ranks : List ℕ) (d : L → Bool) (f : Trans L) (a : Auto L) (names : List LookName) (c : Auto L)
    → IsBuiltPreImage ranks (Told d) f a.rules (a.start ∷ []) names c → PreImageKeepsGuards (Told d) f a c

abbrev pub BuiltRestrictionKeepsGuards : Type 0 → Type 0
BuiltRestrictionKeepsGuards L = (ranks : List ℕ) (d : L → Bool) (f : Trans L) (a : Auto L) (looks : List LookName) (c : Trans L)
    → IsBuiltRestriction ranks (Told d) f a looks c → RestrictionKeepsGuards (Told d) f a c

abbrev pub BuiltOutRestrictionKeepsGuards : Type 0 → Type 0
BuiltOutRestrictionKeepsGuards L = (ranks : List ℕ) (d : L → Bool) (f : Trans L) (a : Auto L) (looks : List LookName) (names : List Triple) (c : Trans L)
    → IsBuiltOutRestriction ranks (Told d) f a looks names c → OutRestrictionKeepsGuards (Told d) f a c

abbrev pub BuiltCompositionKeepsGuards : Type 0 → Type 0
BuiltCompositionKeepsGuards L = (ranks : List ℕ) (d : L → Bool) (f g : Trans L) (looks : List LookName) (names : List Triple) (c : Trans L)
    → IsBuiltComposition ranks (Told d) f g looks names c → CompositionKeepsGuards (Told d) f g c

-- each map of a result makes the same labels as maps of the arguments
abbrev pub BuiltRestrictionKeepsMaps : Type 0 → Type 0
BuiltRestrictionKeepsMaps L = (ranks : List ℕ) (d : L → Bool) (f : Trans L) (a : Auto L) (looks : List LookName) (c : Trans L)
    → IsBuiltRestriction ranks (Told d) f a looks c → KeepsMaps (Told d) f c

abbrev pub BuiltOutRestrictionKeepsMaps : Type 0 → Type 0
BuiltOutRestrictionKeepsMaps L = (ranks : List ℕ) (d : L → Bool) (f : Trans L) (a : Auto L) (looks : List LookName) (names : List Triple) (c : Trans L)
    → IsBuiltOutRestriction ranks (Told d) f a looks names c → KeepsMaps (Told d) f c

abbrev pub BuiltCompositionChainsMaps : Type 0 → Type 0
BuiltCompositionChainsMaps L = (ranks : List ℕ) (d : L → Bool) (f g : Trans L) (looks : List LookName) (names : List Triple) (c : Trans L)
    → IsBuiltComposition ranks (Told d) f g looks names c → ChainsMaps (Told d) f g c
