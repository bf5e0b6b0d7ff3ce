-- What operations on transducers promise of their results, over trees of one type.
use Rattle.std.specs.Prelude.{◌≡◌, ◌⊎◌, ◌↔◌, ◌<◌, ℕ, List, [], length}
use Rattle.model_tree.specs.Tree.{Tree}
use Rattle.model_sta.specs.Automaton.{Rule}
use Rattle.model_sta.specs.Operations.{Auto, Has, HasAll, AreStates, AgreeIn, Alike, OfState, IsMadeOf}
use Rattle.model_sttr.specs.Transducer.{Head, run, Sttr, Trans, Gives, GivesSame, IsHead}
use Rattle.model_sttr.specs.Guards.{AgreeOn, AgreeBehind, IsMapOf, MakesAlike, IsChain}

module _ {L : Type 0} where
  -- the state's tree has an output in all of these
  abbrev pub HasSource : Sttr L → List (List (Rule L)) → Head → List ℕ → Tree L → Type 0
  HasSource f rules h all t = (u : Tree L) × Gives f h t u × HasAll rules all u

  -- what is asked of outputs, as the lookahead of a second transducer that gives nothing
  abbrev pub asking : List (List (Rule L)) → Sttr L
  asking rules = record { looks = rules; rules = [] }

module _ {L : Type 0} (Typed : Tree L → Type 0) where
  -- the same outputs of trees of the type
  abbrev pub AlikePairs : (Tree L → Tree L → Type 0) → (Tree L → Tree L → Type 0) → Type 0
  AlikePairs R S = (t u : Tree L) → Typed t → R t u ↔ S t u

  -- the relation of a state
  abbrev pub OfTransState : Sttr L → (Tree L → Tree L → Type 0) → Type 0
  OfTransState f R = (q : ℕ) × (q < length f.rules) × AlikePairs R (Gives f (run q))

  -- the trees for which a head of f has an output that all of some states accept
  pub record OfSources (f : Sttr L) (rules : List (List (Rule L))) (P : Tree L → Type 0) : Type 0 where
    pub head : Head
    pub is_head : IsHead f head
    pub all : List ℕ
    pub are : AreStates rules all
    pub same : Alike Typed P (HasSource f rules head all)

  -- the relation of a head of f, where its outputs are in all of some states
  pub record OfOutputs (f : Sttr L) (rules : List (List (Rule L))) (R : Tree L → Tree L → Type 0) : Type 0 where
    pub head : Head
    pub is_head : IsHead f head
    pub all : List ℕ
    pub are : AreStates rules all
    pub same : AlikePairs R (λ t u. Gives f head t u × HasAll rules all u)

  -- through a tree between heads of f and g that is in all of some states of g's lookahead
  pub record OfPairs (f g : Sttr L) (R : Tree L → Tree L → Type 0) : Type 0 where
    pub first : Head
    pub is_first : IsHead f first
    pub second : Head
    pub is_second : IsHead g second
    pub all : List ℕ
    pub are : AreStates g.looks all
    pub same : AlikePairs R (λ t w. (u : Tree L) × Gives f first t u × HasAll g.looks all u × Gives g second u w)

  -- the relation of c is P, each of its states has this relation or one of R, and each state of its lookahead a
  -- language of Q; and it gives a child unchanged only where S
  pub record IsTransMadeOf (Q : (Tree L → Type 0) → Type 0) (R : (Tree L → Tree L → Type 0) → Type 0) (S : Type 0) (c : Trans L) (P : Tree L → Tree L → Type 0) : Type 0 where
    pub in_range : c.start < length c.sttr.rules
    pub means : AlikePairs (Gives c.sttr (run c.start)) P
    pub each_state : (q : ℕ) → q < length c.sttr.rules → (q ≡ c.start) ⊎ R (Gives c.sttr (run q))
    pub each_look : (q : ℕ) → q < length c.sttr.looks → Q (Has c.sttr.looks q)
    pub gives_same : GivesSame c.sttr → S

  -- trees with an output; with one that the automaton accepts
  abbrev pub IsDomain : Trans L → Auto L → Type 0
  IsDomain f c = IsMadeOf Typed (λ P. OfState Typed f.sttr.looks P ⊎ OfSources f.sttr [] P) c (λ t. (u : Tree L) × Gives f.sttr (run f.start) t u)

  abbrev pub IsPreImage : Trans L → Auto L → Auto L → Type 0
  IsPreImage f a c = IsMadeOf Typed (λ P. OfState Typed f.sttr.looks P ⊎ OfSources f.sttr a.rules P) c (λ t. (u : Tree L) × Gives f.sttr (run f.start) t u × Has a.rules a.start u)

  -- inputs, or outputs, that the automaton accepts
  abbrev pub IsRestriction : Trans L → Auto L → Trans L → Type 0
  IsRestriction f a c =
      IsTransMadeOf (λ P. OfState Typed f.sttr.looks P ⊎ OfState Typed a.rules P) (OfTransState f.sttr) (GivesSame f.sttr) c
      (λ t u. Gives f.sttr (run f.start) t u × Has a.rules a.start t)

  abbrev pub IsOutRestriction : Trans L → Auto L → Trans L → Type 0
  IsOutRestriction f a c =
      IsTransMadeOf (λ P. OfState Typed f.sttr.looks P ⊎ OfSources f.sttr a.rules P) (OfOutputs f.sttr a.rules) (GivesSame f.sttr) c
      (λ t u. Gives f.sttr (run f.start) t u × Has a.rules a.start u)

  -- the one after the other
  abbrev pub IsComposition : Trans L → Trans L → Trans L → Type 0
  IsComposition f g c =
      IsTransMadeOf (λ P. OfState Typed f.sttr.looks P ⊎ OfSources f.sttr g.sttr.looks P) (OfPairs f.sttr g.sttr) (GivesSame f.sttr × GivesSame g.sttr) c
      (λ t w. (u : Tree L) × Gives f.sttr (run f.start) t u × Gives g.sttr (run g.start) u w)

-- ---- guards and maps

module _ {L : Type 0} (D : L → Type 0) where
  -- labels of D agree on the guards of a result, where they agree on those that are tested of them
  abbrev pub DomainKeepsGuards : Trans L → Auto L → Type 0
  DomainKeepsGuards f c = (l m : L) → D l → D m → AgreeOn f.sttr l m → AgreeIn c.rules l m

  abbrev pub PreImageKeepsGuards : Trans L → Auto L → Auto L → Type 0
  PreImageKeepsGuards f a c = (l m : L) → D l → D m → AgreeBehind f.sttr (asking a.rules) l m → AgreeIn c.rules l m

  abbrev pub RestrictionKeepsGuards : Trans L → Auto L → Trans L → Type 0
  RestrictionKeepsGuards f a c = (l m : L) → D l → D m → AgreeOn f.sttr l m → AgreeIn a.rules l m → AgreeOn c.sttr l m

  abbrev pub OutRestrictionKeepsGuards : Trans L → Auto L → Trans L → Type 0
  OutRestrictionKeepsGuards f a c = (l m : L) → D l → D m → AgreeBehind f.sttr (asking a.rules) l m → AgreeOn c.sttr l m

  abbrev pub CompositionKeepsGuards : Trans L → Trans L → Trans L → Type 0
  CompositionKeepsGuards f g c = (l m : L) → D l → D m → AgreeBehind f.sttr g.sttr l m → AgreeOn c.sttr l m

  -- each map of a restriction makes the labels that one of f makes; of a composition, those that maps of both make in turn
  abbrev pub KeepsMaps : Trans L → Trans L → Type 0
  KeepsMaps f c = (n : L → L) → IsMapOf c.sttr n → (m : L → L) × IsMapOf f.sttr m × MakesAlike D n m

  abbrev pub ChainsMaps : Trans L → Trans L → Trans L → Type 0
  ChainsMaps f g c = (n : L → L) → IsMapOf c.sttr n → IsChain D f.sttr g.sttr n
