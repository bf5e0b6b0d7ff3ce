-- The states of an image while it is built: which names there may be, and what is known of the rules of each.
use Rattle.std.specs.Prelude.{◌≡◌, ◌⊎◌, ◌<◌, ℕ, Bool, List, [], map, length, get_or, All, Contains, ⊤}
use Rattle.model_tree.specs.Label.{Label}
use Rattle.model_tree.specs.Formula.{EveryAtom}
use Rattle.model_sttr.specs.Terms.{with_maps}
use Rattle.model_sttr.specs.Transducer.{OutRule, Sttr, GivesSame}
use Rattle.model_sttr.specs.Plain.{PlainOut, out_meaning}
use Rattle.label_core.specs.Formula.{plain_formula}
use Rattle.label_core.specs.Meaning.{Meaning}
use Rattle.sta_core.specs.Machine.{PlainRule}
use Rattle.sta_core.specs.Sta.{rule_meaning}
use Rattle.sttr_core.specs.Machine.{OutMachine, transducer_of}
use Rattle.sttr_core.specs.Fits.{EveryMap, MapsAre, LabelsFit}
use Rattle.sttr_theory.specs.Triples.{Triple, Way, LookName, of_first, of_second, middle, AreWays}
use Rattle.sttr_theory.specs.Built.{AreLookRules, AreRulesOver, AreRulesOfWays, IsWayRule, IsPartLook}
use Rattle.sttr_run.specs.Fits.{RuleStands, SttrStands}
use Rattle.sttr_run.specs.Plain.{plain_way_term}
use Rattle.sttr_run.specs.Runs.{OnTerm}
use Rattle.sttr_run.specs.Sources.{GivesChild}
use Rattle.sttr_run.specs.declared.triples.Way as code
use Rattle.sttr_run.specs.declared.running.RunStop.{RunStop}
use Rattle.sttr_run.specs.declared.running.RunStop.TheVariants as stop
use Rattle.sttr_preimage.specs.Names.{Adds}
use Rattle.sttr_preimage.specs.Through.{IsAtomOf, IsAtomBehind}

-- the name is of a state of the second's lookahead, or of a state between
abbrev pub IsSecond : LookName → Type 0
IsSecond (of_first s) = ⊥
IsSecond (of_second s) = ⊤
IsSecond (middle q all) = ⊥

abbrev pub IsMiddle : LookName → Type 0
IsMiddle (of_first s) = ⊥
IsMiddle (of_second s) = ⊥
IsMiddle (middle q all) = ⊤

-- a number that is outside its range
abbrev pub IsRange : RunStop → Type 0
IsRange (stop.Range n) = ⊤
IsRange stop.Memory = ⊥

-- one of the names is
abbrev pub HasOne : {X : Type 0} → (X → Type 0) → List X → Type 0
HasOne {X} P names = (x : X) × Contains names x × P x

-- Below, names of the second's states stand where S, and names between where P.
module _ {T A M : Type 0} (atom_fits : T → A → Type 0) (map_fits map_makes : T → M → Type 0) where
  -- what is needed to run g over the outputs of f: the maps of f make labels of which g speaks; and where a child may be given
  -- as it is, or names of the second's states stand, g speaks of the trees of f
  pub record CanAsk (theory : T) (f g : OutMachine A M) (S P : Type 0) : Type 0 where
    pub looks : All (All (RuleStands f.looks.ranks (length f.looks.rules))) f.looks.rules
    pub stands : SttrStands f
    pub labels : LabelsFit (atom_fits theory) (map_fits theory) f
    pub second_looks : All (All (RuleStands g.looks.ranks (length g.looks.rules))) g.looks.rules
    pub second_stands : SttrStands g
    pub makes : P → (made : T) × MapsAre (map_makes made) f × LabelsFit (atom_fits made) (map_fits made) g
    pub ranks : GivesChild f ⊎ S → g.looks.ranks ≡ f.looks.ranks
    pub speaks : GivesChild f ⊎ S → LabelsFit (atom_fits theory) (map_fits theory) g

module _ {A M : Type 0} (holds : A → Label → Bool) (make : M → Label → Label) (f g : OutMachine A M) where
  -- the transducers over labels
  abbrev pub first_of : Sttr Label
  first_of = transducer_of holds make f

  abbrev pub second_of : Sttr Label
  second_of = transducer_of holds make g

  -- the rule over labels
  abbrev pub meant : PlainOut (PlainRule A) M → OutRule Label
  meant r = out_meaning (rule_meaning holds) make r

  -- the name is of a state that there is
  abbrev pub IsLookName : Type 0 → Type 0 → LookName → Type 0
  IsLookName S P (of_first s) = s < length f.looks.rules
  IsLookName S P (of_second s) = (s < length g.looks.rules) × (GivesSame first_of ⊎ S)
  IsLookName S P (middle q all) = (q < length f.rules) × All (λ s. s < length g.looks.rules) all × P

  -- what a state of this name may ask
  abbrev pub NextTo : LookName → LookName → Type 0
  NextTo x = IsLookName (IsSecond x) (IsMiddle x)

-- a rule of a state of the transducer
abbrev pub HasOutRule : {A M : Type 0} → OutMachine A M → ℕ → PlainOut (PlainRule A) M → Type 0
HasOutRule f q r = (q < length f.rules) × Contains (get_or f.rules q []) r

module _ {A M V W : Type 0} (is_put : M → A → A → Type 0) (make : M → Label → Label) {label_of : V → Label} {holds : A → Label → Bool} (N : Meaning label_of holds W) (fits : A → Type 0) (f g : OutMachine A M) where
  -- an atom of the first, or one of the second, behind a map or as it is
  abbrev pub IsLookAtom : Type 0 → Type 0 → A → Type 0
  IsLookAtom S P b = IsAtomOf N.equal f b ⊎ (P × IsAtomBehind N.equal is_put f g b) ⊎ ((GivesChild f ⊎ S) × IsAtomOf N.equal g b)

  -- the rule fits among so many states, and its atoms are these
  pub record RowStands (S P : Type 0) (states : ℕ) (r : PlainRule A) : Type 0 where
    pub stands : RuleStands f.looks.ranks states r
    pub fit : EveryAtom fits r.guard
    pub atoms : EveryAtom (IsLookAtom S P) r.guard

  -- the rules of a state of this name
  pub record HasRules (old new : List LookName) (x : LookName) (rules : List (PlainRule A)) : Type 0 where
    pub adds : Adds old new (NextTo holds make f g x)
    pub are : AreLookRules f.looks.ranks N.has (first_of holds make f g) (second_of holds make f g) new (map (rule_meaning holds) rules) x
    pub stand : All (RowStands (IsSecond x) (IsMiddle x) (length new)) rules

  -- so far: the rules of a state between for these rules of the transducer
  pub record HasRulesOver (old new : List LookName) (t : Triple) (ρs : List (PlainOut (PlainRule A) M)) (rules : List (PlainRule A)) : Type 0 where
    pub adds : Adds old new (IsLookName holds make f g ⊥ ⊤)
    pub over : AreRulesOver f.looks.ranks N.has (first_of holds make f g) (second_of holds make f g) (IsWayRule f.looks.ranks N.has (first_of holds make f g) (second_of holds make f g) new) (map (meant holds make f g) ρs) (map (rule_meaning holds) rules) t
    pub stand : All (RowStands ⊥ ⊤ (length new)) rules

  -- for one of them and these ways
  pub record HasWayRules (old new : List LookName) (ρ : PlainOut (PlainRule A) M) (ys : List (Way Label)) (rules : List (PlainRule A)) : Type 0 where
    pub adds : Adds old new (IsLookName holds make f g ⊥ ⊤)
    pub over : AreRulesOfWays f.looks.ranks N.has (first_of holds make f g) (second_of holds make f g) (IsWayRule f.looks.ranks N.has (first_of holds make f g) (second_of holds make f g) new) (map (rule_meaning holds) rules) (meant holds make f g ρ) ys
    pub stand : All (RowStands ⊥ ⊤ (length new)) rules

  -- for all ways
  abbrev pub HasAllWays : List LookName → List LookName → Triple → PlainOut (PlainRule A) M → List (PlainRule A) → Type 0
  HasAllWays old new t ρ rules = (ys : List (Way Label)) × AreWays (first_of holds make f g) (second_of holds make f g) N.has (with_maps make ρ.term) t ys × HasWayRules old new ρ ys rules

  -- so far: the first of the names have their rules
  pub record HasRows (S P : Type 0) (names : List LookName) (rows : List (List (PlainRule A))) : Type 0 where
    pub known : (x : LookName) → Contains names x → IsLookName holds make f g S P x
    pub part : IsPartLook f.looks.ranks N.has (first_of holds make f g) (second_of holds make f g) names (map (map (rule_meaning holds)) rows)
    pub stand : All (All (RowStands S P (length names))) rows

  -- the rules of all names, and of those that they ask
  pub record AreAllRows (S P : Type 0) (old new : List LookName) (rows : List (List (PlainRule A))) : Type 0 where
    pub adds : Adds old new (IsLookName holds make f g S P)
    pub built : HasRows S P new rows
    pub count : length rows ≡ length new

  -- the way's guard says of the first's labels what the second does behind its maps, and its term's maps are these
  pub record WayStands (Q : M → Type 0) (y : code.Way A M) : Type 0 where
    pub fit : EveryAtom fits (plain_formula y.guard)
    pub atoms : EveryAtom (IsAtomBehind N.equal is_put f g) (plain_formula y.guard)
    pub maps : OnTerm (λ z. EveryMap Q (plain_way_term z)) y.term
