-- What the operations owe of the automata and transducers that they make, over the labels of a theory.
use Rattle.std.specs.Prelude.{◌≡◌, ◌⊎◌, ◌<◌, ℤ, Bool, true, List, length, All, ⊤}
use Rattle.model_tree.specs.Label.{Label}
use Rattle.model_tree.specs.Formula.{EveryAtom}
use Rattle.model_sta.specs.Sets.{Fits}
use Rattle.model_sta.specs.Operations.{Auto}
use Rattle.model_sttr.specs.Transducer as meant
use Rattle.model_sttr.specs.Operations.{IsDomain, IsPreImage, IsRestriction, IsOutRestriction, DomainKeepsGuards, PreImageKeepsGuards, RestrictionKeepsGuards, OutRestrictionKeepsGuards, KeepsMaps}
use Rattle.label_core.specs.Meaning.{Meaning}
use Rattle.sta_core.specs.Machine.{Machine, PlainRule}
use Rattle.sta_core.specs.Sta.{automaton_of, AtomsFit}
use Rattle.sta_core.specs.declared.Lang.{Lang}
use Rattle.sttr_core.specs.Machine.{OutMachine, transducer_of}
use Rattle.sttr_core.specs.Fits.{MapsAre, LabelsFit}
use Rattle.sttr_core.specs.declared.sttr.Trans.{Trans}
use Rattle.sttr_run.specs.Fits.{SttrStands}
use Rattle.sttr_run.specs.Sources.{HasAtom, HasAtomIn, HasMap, GivesChild}
use Rattle.sttr_run.specs.declared.running.RunStop.{RunStop}
use Rattle.sttr_run.specs.declared.running.RunStop.TheVariants as stop

-- the automaton and the transducer over labels
abbrev pub auto_at : {A : Type 0} → (A → Label → Bool) → Lang A → Auto Label
auto_at holds a = record { rules = automaton_of holds a.sta; start = a.state }

abbrev pub trans_at : {A M : Type 0} → (A → Label → Bool) → (M → Label → Label) → Trans A M → meant.Trans Label
trans_at holds make f = record { sttr = transducer_of holds make f.sttr; start = f.state }

-- ---- what the operations need

-- its maps make labels of some theory; of one of which the automaton speaks
abbrev pub MakesSome : {T A M : Type 0} → (T → M → Type 0) → OutMachine A M → Type 0
MakesSome {T} map_makes f = (made : T) × MapsAre (map_makes made) f

abbrev pub MakesAsked : {T A M : Type 0} → (T → A → Type 0) → (T → M → Type 0) → OutMachine A M → Machine A → Type 0
MakesAsked {T} atom_fits map_makes f a = (made : T) × MapsAre (map_makes made) f × AtomsFit (atom_fits made) a

-- where a child may be given as it is, the automaton speaks of the transducer's own trees
pub record SpeaksOfInputs {A M : Type 0} (fits : A → Type 0) (f : OutMachine A M) (a : Machine A) : Type 0 where
  pub ranks : a.ranks ≡ f.looks.ranks
  pub fit : AtomsFit fits a

abbrev pub StandsUnchanged : {A M : Type 0} → (A → Type 0) → OutMachine A M → Machine A → Type 0
StandsUnchanged fits f a = GivesChild f → SpeaksOfInputs fits f a

-- ---- languages and relations

module _ {A M V W : Type 0} (make : M → Label → Label) {label_of : V → Label} {holds : A → Label → Bool} (N : Meaning label_of holds W) where
  -- exactly the trees of it, of whatever labels; each state has a language of the operands; guards tell apart no more labels;
  -- and no rule of a transducer uses a child twice where no rule of the operand does
  pub record HasDomain (f : Trans A M) (c : Lang A) : Type 0 where
    pub exact : IsDomain (Fits f.sttr.looks.ranks N.has) (trans_at holds make f) (auto_at holds c)
    pub guards : DomainKeepsGuards N.has (trans_at holds make f) (auto_at holds c)

  pub record HasPreImage (f : Trans A M) (a c : Lang A) : Type 0 where
    pub exact : IsPreImage (Fits f.sttr.looks.ranks N.has) (trans_at holds make f) (auto_at holds a) (auto_at holds c)
    pub guards : PreImageKeepsGuards N.has (trans_at holds make f) (auto_at holds a) (auto_at holds c)

  pub record IsRestricted (f : Trans A M) (a : Lang A) (c : Trans A M) : Type 0 where
    pub exact : IsRestriction (Fits f.sttr.looks.ranks N.has) (trans_at holds make f) (auto_at holds a) (trans_at holds make c)
    pub guards : RestrictionKeepsGuards N.has (trans_at holds make f) (auto_at holds a) (trans_at holds make c)
    pub maps : KeepsMaps N.has (trans_at holds make f) (trans_at holds make c)
    pub linear : meant.AllLinear (transducer_of holds make f.sttr) → meant.AllLinear (transducer_of holds make c.sttr)

  pub record IsOutRestricted (f : Trans A M) (a : Lang A) (c : Trans A M) : Type 0 where
    pub exact : IsOutRestriction (Fits f.sttr.looks.ranks N.has) (trans_at holds make f) (auto_at holds a) (trans_at holds make c)
    pub guards : OutRestrictionKeepsGuards N.has (trans_at holds make f) (auto_at holds a) (trans_at holds make c)
    pub maps : KeepsMaps N.has (trans_at holds make f) (trans_at holds make c)
    pub linear : meant.AllLinear (transducer_of holds make f.sttr) → meant.AllLinear (transducer_of holds make c.sttr)

-- ---- atoms and maps

module _ {A M : Type 0} (eq : A → A → Bool) (f : OutMachine A M) (asked : List (List (PlainRule A))) where
  -- an atom of the transducer
  abbrev pub IsOldAtom : A → Type 0
  IsOldAtom b = (a : A) × HasAtomIn f a × (eq a b ≡ true)

  -- or one that is asked, with the entries of a map put for the fields
  abbrev pub IsPutAtom : (M → A → A → Type 0) → A → Type 0
  IsPutAtom is_put b = (m : M) × HasMap f m × (a : A) × HasAtom asked a × (d : A) × is_put m a d × (eq d b ≡ true)

  -- or, as it is
  abbrev pub IsAskedAtom : A → Type 0
  IsAskedAtom b = (a : A) × HasAtom asked a × (eq a b ≡ true)

  -- where a child is given as it is
  abbrev pub IsImageAtom : (M → A → A → Type 0) → A → Type 0
  IsImageAtom is_put b = IsOldAtom b ⊎ IsPutAtom is_put b ⊎ (GivesChild f × IsAskedAtom b)

-- each map is equal to one of the transducer
abbrev pub IsOldMap : {A M : Type 0} → (M → M → Bool) → OutMachine A M → M → Type 0
IsOldMap {A} {M} map_eq f n = (m : M) × HasMap f m × (map_eq m n ≡ true)

-- every atom of the transducer and its lookahead
pub record AtomsAre {A M : Type 0} (P : A → Type 0) (c : OutMachine A M) : Type 0 where
  pub looks : AtomsFit P c.looks
  pub guards : All (λ rules. All (λ r. EveryAtom P r.rule.guard) rules) c.rules

-- a language over the trees of the transducer
module _ {A M V W : Type 0} (is_put : M → A → A → Type 0) {label_of : V → Label} {holds : A → Label → Bool} (N : Meaning label_of holds W) (fits : A → Type 0) where
  pub record IsLanguageFrom (f : OutMachine A M) (asked : List (List (PlainRule A))) (c : Lang A) : Type 0 where
    pub ranks : c.sta.ranks ≡ f.looks.ranks
    pub low : c.state < length c.sta.rules
    pub fit : AtomsFit fits c.sta
    pub atoms : AtomsFit (IsImageAtom N.equal f asked is_put) c.sta

-- a transducer over the same trees
module _ {T A M V W : Type 0} (map_eq : M → M → Bool) {label_of : V → Label} {holds : A → Label → Bool} (N : Meaning label_of holds W) (fits : A → Type 0) (map_fits : M → Type 0) (map_makes : T → M → Type 0) where
  pub record IsTransOver (P : A → Type 0) (f : OutMachine A M) (c : Trans A M) : Type 0 where
    pub ranks : c.sttr.looks.ranks ≡ f.looks.ranks
    pub low : c.state < length c.sttr.rules
    pub stands : SttrStands c.sttr
    pub labels : LabelsFit fits map_fits c.sttr
    pub makes : (made : T) → MapsAre (map_makes made) f → MapsAre (map_makes made) c.sttr
    pub atoms : AtomsAre P c.sttr
    pub maps : MapsAre (IsOldMap map_eq f) c.sttr

  -- whose atoms are its own or those that are asked of inputs
  abbrev pub IsTransFrom : OutMachine A M → List (List (PlainRule A)) → Trans A M → Type 0
  IsTransFrom f asked = IsTransOver (λ b. IsOldAtom N.equal f asked b ⊎ IsAskedAtom N.equal f asked b) f

-- whose atoms are its own or those that are asked of outputs
abbrev pub IsTransPutFrom : {T A M V W : Type 0} → (M → M → Bool) → (M → A → A → Type 0) → {label_of : V → Label} → {holds : A → Label → Bool} → Meaning label_of holds W → (A → Type 0) → (M → Type 0) → (T → M → Type 0) → OutMachine A M → List (List (PlainRule A)) → Trans A M → Type 0
IsTransPutFrom map_eq is_put N fits map_fits map_makes f asked = IsTransOver map_eq N fits map_fits map_makes (IsImageAtom N.equal f asked is_put) f

-- a number of an atom that is asked, once a map is put
abbrev pub IsImageStop : {A M : Type 0} → (M → A → ℤ → Type 0) → OutMachine A M → List (List (PlainRule A)) → RunStop → Type 0
IsImageStop {A} {M} put_outside f asked (stop.Range n) = (m : M) × HasMap f m × (a : A) × HasAtom asked a × put_outside m a n
IsImageStop put_outside f asked stop.Memory = ⊤
