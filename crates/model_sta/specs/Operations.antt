-- What operations on automata promise of their results, over trees of one type.
use Rattle.std.specs.Prelude.{◌≡◌, ◌⊎◌, ◌↔◌, ◌<◌, ℕ, true, List, [], ◌∷◌, length, Contains}
use Rattle.model_tree.specs.Tree.{Tree}
use Rattle.model_sta.specs.Automaton.{Rule, rules_of, is_accepted}
use Rattle.model_sta.specs.Sets.{Each}

-- the rules of each state, and the state whose language the automaton has
pub record Auto (L : Type 0) : Type 0 where
  pub rules : List (List (Rule L))
  pub start : ℕ

-- some states of each of two automata that accept, and some that don't
pub record Class : Type 0 where
  pub inside : List ℕ
  pub outside : List ℕ
  pub other_inside : List ℕ
  pub other_outside : List ℕ

-- Of states and guards, by their rules alone.
module _ {L : Type 0} where
  -- the state accepts the tree
  abbrev pub Has : List (List (Rule L)) → ℕ → Tree L → Type 0
  Has rules s t = is_accepted rules t s ≡ true

  -- each state of the list is one of the automaton's
  abbrev pub AreStates : List (List (Rule L)) → List ℕ → Type 0
  AreStates rules states = Each (λ s. s < length rules) states

  -- all states of the list accept the tree, or none does
  abbrev pub HasAll : List (List (Rule L)) → List ℕ → Tree L → Type 0
  HasAll rules states t = Each (λ s. Has rules s t) states

  abbrev pub HasNone : List (List (Rule L)) → List ℕ → Tree L → Type 0
  HasNone rules states t = Each (λ s. ¬ (Has rules s t)) states

  -- the class is of states that there are, of the first automaton and of the second
  abbrev pub IsClassOf : List (List (Rule L)) → List (List (Rule L)) → Class → Type 0
  IsClassOf first second k = AreStates first k.inside × AreStates first k.outside × AreStates second k.other_inside × AreStates second k.other_outside

  -- the tree is in the class, or in one of several
  abbrev pub InClass : List (List (Rule L)) → List (List (Rule L)) → Class → Tree L → Type 0
  InClass first second k t = HasAll first k.inside t × HasNone first k.outside t × HasAll second k.other_inside t × HasNone second k.other_outside t

  abbrev pub InOne : List (List (Rule L)) → List (List (Rule L)) → List Class → Tree L → Type 0
  InOne first second [] t = ⊥
  InOne first second (k ∷ classes) t = InClass first second k t ⊎ InOne first second classes t

  -- each guard has the same truth value at both labels
  abbrev pub AgreeIn : List (List (Rule L)) → L → L → Type 0
  AgreeIn rules l m = (q : ℕ) (r : Rule L) → Contains (rules_of rules q) r → r.guard l ≡ r.guard m

  -- labels that agree on the guards of a and b agree on those of c
  abbrev pub KeepsGuards : Auto L → Auto L → Auto L → Type 0
  KeepsGuards a b c = (l m : L) → AgreeIn a.rules l m → AgreeIn b.rules l m → AgreeIn c.rules l m

module _ {L : Type 0} (Typed : Tree L → Type 0) where
  -- the same trees of the type
  abbrev pub Alike : (Tree L → Type 0) → (Tree L → Type 0) → Type 0
  Alike P Q = (t : Tree L) → Typed t → P t ↔ Q t

  -- the language of a state of the automaton, or of classes of two joined
  abbrev pub OfState : List (List (Rule L)) → (Tree L → Type 0) → Type 0
  OfState rules P = (s : ℕ) × (s < length rules) × Alike P (Has rules s)

  abbrev pub OfClasses : List (List (Rule L)) → List (List (Rule L)) → (Tree L → Type 0) → Type 0
  OfClasses first second P = (classes : List Class) × Each (IsClassOf first second) classes × Alike P (InOne first second classes)

  -- the language of c is P, and each of its states has this language or one of Q
  pub record IsMadeOf (Q : (Tree L → Type 0) → Type 0) (c : Auto L) (P : Tree L → Type 0) : Type 0 where
    pub in_range : c.start < length c.rules
    pub means : Alike (Has c.rules c.start) P
    pub each_state : (q : ℕ) → q < length c.rules → (q ≡ c.start) ⊎ Q (Has c.rules q)

  -- of the states of two automata, or besides of classes of both
  abbrev pub OfBoth : Auto L → Auto L → (Tree L → Type 0) → Type 0
  OfBoth a b P = OfState a.rules P ⊎ OfState b.rules P

  abbrev pub OfBothOrClasses : Auto L → Auto L → (Tree L → Type 0) → Type 0
  OfBothOrClasses a b P = OfState a.rules P ⊎ OfState b.rules P ⊎ OfClasses a.rules b.rules P

  abbrev pub IsUnion : Auto L → Auto L → Auto L → Type 0
  IsUnion a b c = IsMadeOf (OfBoth a b) c (λ t. Has a.rules a.start t ⊎ Has b.rules b.start t)

  abbrev pub IsIntersection : Auto L → Auto L → Auto L → Type 0
  IsIntersection a b c = IsMadeOf (OfBoth a b) c (λ t. Has a.rules a.start t × Has b.rules b.start t)

  abbrev pub IsDifference : Auto L → Auto L → Auto L → Type 0
  IsDifference a b c = IsMadeOf (OfBothOrClasses a b) c (λ t. Has a.rules a.start t × ¬ (Has b.rules b.start t))

  -- of one automaton
  abbrev pub IsComplement : Auto L → Auto L → Type 0
  IsComplement a c = IsMadeOf (OfBothOrClasses a a) c (λ t. ¬ (Has a.rules a.start t))

  abbrev pub IsMinimal : Auto L → Auto L → Type 0
  IsMinimal a c = IsMadeOf (OfBothOrClasses a a) c (Has a.rules a.start)
