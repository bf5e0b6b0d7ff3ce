-- A second transducer that runs over an output term of a first one: the ways in which it can.
use Rattle.std.specs.Prelude.{◌≡◌, ◌<◌, ◌⊎◌, ℕ, zero, suc, Bool, true, List, [], ◌∷◌, map, get_or, length, Option, Some, None, Contains, ⊤}
use Rattle.std.specs.List.{flat_map}
use Rattle.model_tree.specs.Tree.{Tree, Trees, no_trees, tree}
use Rattle.model_sta.specs.Sets.{Each, width}
use Rattle.model_sta.specs.Operations.{Has, HasAll, AreStates}
use Rattle.model_sttr.specs.Terms.{Term, Occurs, Uses, IsLinear, IsInstance}
use Rattle.model_sttr.specs.Transducer.{Head, identity, run, Sttr, Gives, GivesAt, IsHead, AllLinear}
use Rattle.model_sttr.specs.Operations.{HasSource}
use Rattle.sttr_theory.specs.Guards.{MakesIn, AgreeMade, IsChainOver}

-- a head of the first, states of the second's lookahead that are demanded of its output, and a head of the second, or none
pub record Triple : Type 0 where
  pub first : Head
  pub all : List ℕ
  pub second : Option Head

-- a guard, what is demanded of each child, and where the triple has a second part a term that calls triples
pub record Way (L : Type 0) : Type 0 where
  pub guard : L → Bool
  pub demands : List (List Triple)
  pub term : Option (Term Triple (L → L))

-- a triple that gives a child unchanged demands nothing of it: its demands are asked apart
abbrev pub AsksApart : Triple → Type 0
AsksApart x = x.first ≡ identity → x.all ≡ []

-- what can be asked of a child: a state of the first's lookahead or of the second's, or an output of a state of the first
-- that is in all of some states of the second's lookahead
pub data LookName : Type 0 where
  of_first : ℕ → LookName
  of_second : ℕ → LookName
  middle : ℕ → List ℕ → LookName

abbrev pub firsts : List ℕ → List LookName
firsts all = map of_first all

abbrev pub seconds : List ℕ → List LookName
seconds all = map of_second all

-- what is asked by a head of the first and demanded states: of a child that is given unchanged the states themselves
abbrev pub asked_by : Head → List ℕ → List LookName
asked_by identity all = seconds all
asked_by (run q) all = middle q all ∷ []

-- the second part of a demanded triple isn't looked at
abbrev pub asked : List Triple → List LookName
asked demands = flat_map (λ d. asked_by d.first d.all) demands

module _ {L : Type 0} where
  -- child j is there, and P holds of it
  abbrev pub At : (Tree L → Type 0) → ℕ → Trees L → Type 0
  At P j no_trees = ⊥
  At P zero (tree t ts) = P t
  At P (suc j) (tree t ts) = At P j ts

  -- the children that the term uses are there
  abbrev pub HasChildren : Trees L → Term Head (L → L) → Type 0
  HasChildren ts p = (j : ℕ) → Uses j p → j < width ts

module _ {L : Type 0} (f g : Sttr L) where
  -- what a name asks of a tree
  abbrev pub Means : LookName → Tree L → Type 0
  Means (of_first s) t = Has f.looks s t
  Means (of_second s) t = Has g.looks s t
  Means (middle q all) t = HasSource f g.looks (run q) all t

  -- the second part takes u to w; where there is none, w doesn't count
  abbrev pub Ends : Option Head → Tree L → Tree L → Type 0
  Ends None u w = ⊤
  Ends (Some h) u w = Gives g h u w

  -- t goes to w through one middle tree
  abbrev pub Through : Triple → Tree L → Tree L → Type 0
  Through x t w = (u : Tree L) × Gives f x.first t u × HasAll g.looks x.all u × Ends x.second u w

  -- child j does
  abbrev pub ThroughAt : Trees L → Triple → ℕ → Tree L → Type 0
  ThroughAt ts x j w = (u : Tree L) × GivesAt f x.first j ts u × HasAll g.looks x.all u × Ends x.second u w

  -- an instance of the term at label l and children ts does
  abbrev pub Middle : L → Trees L → Term Head (L → L) → Triple → Tree L → Type 0
  Middle l ts p x w = (u : Tree L) × IsInstance (λ h j v. GivesAt f h j ts v) l p u × HasAll g.looks x.all u × Ends x.second u w

  -- each child is what is asked of it
  abbrev pub AreMet : Trees L → List (List Triple) → Type 0
  AreMet ts demands = (j : ℕ) → Each (λ n. At (Means n) j ts) (asked (get_or demands j []))

  abbrev pub Yields : L → Trees L → Option (Term Triple (L → L)) → Tree L → Type 0
  Yields l ts None w = ⊤
  Yields l ts (Some p) w = IsInstance (λ x j v. ThroughAt ts x j v) l p w

  -- the way's guard holds, its demands are met, and its term gives w
  abbrev pub Works : L → Trees L → Tree L → Way L → Type 0
  Works l ts w y = (y.guard l ≡ true) × AreMet ts y.demands × Yields l ts y.term w

  -- no head of the first gives two trees on one child, or no rule of the second uses a child twice
  abbrev pub CanReturn : Trees L → Option Head → Type 0
  CanReturn ts None = ⊤
  CanReturn ts (Some identity) = ⊤
  CanReturn ts (Some (run q)) = ((h : Head) (j : ℕ) (u v : Tree L) → GivesAt f h j ts u → GivesAt f h j ts v → u ≡ v) ⊎ AllLinear g

  -- what is asked of child j is of what stands at this child in the term, and of states that there are
  abbrev pub IsAsked : Term Head (L → L) → LookName → ℕ → Type 0
  IsAsked p (of_first s) j = ⊥
  IsAsked p (of_second s) j = Occurs identity j p × (s < length g.looks)
  IsAsked p (middle q all) j = Occurs (run q) j p × AreStates g.looks all

  -- the called triple's head stands at child j in the term, and its demands are states; it has a second part, which is a head
  -- of the second or that of the triple x; and nothing is demanded of a child that is given unchanged
  abbrev pub IsCalled : Term Head (L → L) → Triple → Triple → ℕ → Type 0
  IsCalled p x d j = (Occurs d.first j p × AreStates g.looks d.all) × (h : Head) × (d.second ≡ Some h) × ((x.second ≡ Some h) ⊎ IsHead g h) × AsksApart d

  -- there is a term exactly where the triple has a second part; it calls on no child twice where the term and the second don't
  abbrev pub IsTermFor : Term Head (L → L) → Triple → Option (Term Triple (L → L)) → Type 0
  IsTermFor p x None = x.second ≡ None
  IsTermFor p x (Some z) = ¬ (x.second ≡ None) × ((d : Triple) (j : ℕ) → Occurs d j z → IsCalled p x d j) × (IsLinear p → AllLinear g → IsLinear z)

  pub record WayFits (p : Term Head (L → L)) (x : Triple) (y : Way L) : Type 0 where
    pub demands : (j : ℕ) → Each (λ n. IsAsked p n j) (asked (get_or y.demands j []))
    pub term : IsTermFor p x y.term

  -- the ways in which the triple can run over the term: some way works for each middle tree, and a way that works has a
  -- middle tree, where the two can be composed
  pub record AreWays (D : L → Type 0) (p : Term Head (L → L)) (x : Triple) (ys : List (Way L)) : Type 0 where
    pub all : (l : L) → D l → (ts : Trees L) (w : Tree L) → Middle l ts p x w → (y : Way L) × Contains ys y × Works l ts w y
    pub only : (l : L) → D l → (ts : Trees L) (w : Tree L) → HasChildren ts p → CanReturn ts x.second → (y : Way L) → Contains ys y → Works l ts w y → Middle l ts p x w
    pub fit : (y : Way L) → Contains ys y → WayFits p x y
    -- guards depend on what the second's guards say of labels that the term makes, and maps are its own or the second's after them
    pub guards : (y : Way L) → Contains ys y → (l m : L) → D l → D m → AgreeMade g p l m → y.guard l ≡ y.guard m
    pub maps : (y : Way L) → Contains ys y → (n : L → L) → MakesIn y.term n → IsChainOver D g p x.second n
