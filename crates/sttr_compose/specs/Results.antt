-- What composition owes of the transducer that it makes, over the labels of a theory.
use Rattle.std.specs.Prelude.{◌≡◌, ◌⊎◌, ◌<◌, ℤ, Bool, true, length, ⊤}
use Rattle.model_tree.specs.Label.{Label}
use Rattle.model_sta.specs.Sets.{Fits}
use Rattle.model_sttr.specs.Transducer.{AllLinear, IsFunctionalOn}
use Rattle.model_sttr.specs.Operations.{IsComposition, CompositionKeepsGuards, ChainsMaps}
use Rattle.label_core.specs.Meaning.{Meaning}
use Rattle.sttr_core.specs.Machine.{OutMachine, transducer_of}
use Rattle.sttr_core.specs.Fits.{MapsAre, LabelsFit}
use Rattle.sttr_core.specs.declared.sttr.Trans.{Trans}
use Rattle.sttr_run.specs.Fits.{SttrStands}
use Rattle.sttr_run.specs.Sources.{HasAtomIn, HasMap, GivesChild}
use Rattle.sttr_run.specs.declared.running.RunStop.{RunStop}
use Rattle.sttr_run.specs.declared.running.RunStop.TheVariants as stop
use Rattle.sttr_preimage.specs.Results.{trans_at, AtomsAre}

-- ---- what composition needs

-- the first's maps make labels of some theory of which the second speaks
abbrev pub MakesFor : {T A M : Type 0} → (T → A → Type 0) → (T → M → Type 0) → (T → M → Type 0) → OutMachine A M → OutMachine A M → Type 0
MakesFor {T} atom_fits map_fits map_makes f g = (made : T) × MapsAre (map_makes made) f × LabelsFit (atom_fits made) (map_fits made) g

-- where the first may give a child as it is, the second speaks of the first's own trees
pub record SpeaksOfFirst {A M : Type 0} (fits : A → Type 0) (map_fits : M → Type 0) (f g : OutMachine A M) : Type 0 where
  pub ranks : g.looks.ranks ≡ f.looks.ranks
  pub labels : LabelsFit fits map_fits g

-- on trees of the first's type each of its states gives at most one tree, or no rule of the second uses a child twice
abbrev pub CanCompose : {A M : Type 0} → (A → Label → Bool) → (M → Label → Label) → (Label → Type 0) → OutMachine A M → OutMachine A M → Type 0
CanCompose holds make D f g = IsFunctionalOn (transducer_of holds make f) (Fits f.looks.ranks D) ⊎ AllLinear (transducer_of holds make g)

-- ---- the relation

module _ {A M V W : Type 0} (make : M → Label → Label) {label_of : V → Label} {holds : A → Label → Bool} (N : Meaning label_of holds W) where
  -- exactly through a tree between, of whatever labels; each state has a relation of the operands; guards tell apart no more
  -- labels, maps are those of both, one after the other; and no rule uses a child twice where no rule of the operands does
  pub record IsComposed (f g c : Trans A M) : Type 0 where
    pub exact : IsComposition (Fits f.sttr.looks.ranks N.has) (trans_at holds make f) (trans_at holds make g) (trans_at holds make c)
    pub guards : CompositionKeepsGuards N.has (trans_at holds make f) (trans_at holds make g) (trans_at holds make c)
    pub maps : ChainsMaps N.has (trans_at holds make f) (trans_at holds make g) (trans_at holds make c)
    pub linear : AllLinear (transducer_of holds make f.sttr) → AllLinear (transducer_of holds make g.sttr) → AllLinear (transducer_of holds make c.sttr)

-- ---- atoms and maps

-- an atom of the first; one of the second with the entries of a map of the first put for the fields; or one of the second, where
-- the first may give a child as it is
abbrev pub IsComposedAtom : {A M : Type 0} → (A → A → Bool) → (M → A → A → Type 0) → OutMachine A M → OutMachine A M → A → Type 0
IsComposedAtom {A} {M} eq is_put f g b =
    ((a : A) × HasAtomIn f a × (eq a b ≡ true))
    ⊎ ((m : M) × HasMap f m × (a : A) × HasAtomIn g a × (d : A) × is_put m a d × (eq d b ≡ true))
    ⊎ (GivesChild f × (a : A) × HasAtomIn g a × (eq a b ≡ true))

-- a map of the first with one of the second after it; one of the first, where the second may give a child as it is; or one of the
-- second, where the first may
abbrev pub IsComposedMap : {M A : Type 0} → (M → M → Bool) → (M → M → M → Type 0) → OutMachine A M → OutMachine A M → M → Type 0
IsComposedMap {M} map_eq is_chained f g n =
    ((m : M) × HasMap f m × (k : M) × HasMap g k × (c : M) × is_chained m k c × (map_eq c n ≡ true))
    ⊎ (GivesChild g × (m : M) × HasMap f m × (map_eq m n ≡ true))
    ⊎ (GivesChild f × (k : M) × HasMap g k × (map_eq k n ≡ true))

module _ {T A M V W : Type 0} (map_eq : M → M → Bool) (is_put : M → A → A → Type 0) (is_chained : M → M → M → Type 0) {label_of : V → Label} {holds : A → Label → Bool} (N : Meaning label_of holds W) (fits : A → Type 0) (map_fits : M → Type 0) (map_makes : T → M → Type 0) where
  -- a transducer over the first's trees, which makes what the second makes
  pub record IsTransThrough (f g : OutMachine A M) (c : Trans A M) : Type 0 where
    pub ranks : c.sttr.looks.ranks ≡ f.looks.ranks
    pub low : c.state < length c.sttr.rules
    pub stands : SttrStands c.sttr
    pub labels : LabelsFit fits map_fits c.sttr
    pub makes : (made : T) → MapsAre (map_makes made) g → (GivesChild g → MapsAre (map_makes made) f) → MapsAre (map_makes made) c.sttr
    pub atoms : AtomsAre (IsComposedAtom N.equal is_put f g) c.sttr
    pub maps : MapsAre (IsComposedMap map_eq is_chained f g) c.sttr

-- a number of an atom, or of a map, of the second once a map of the first is put
abbrev pub IsComposeStop : {A M : Type 0} → (M → A → ℤ → Type 0) → (M → M → ℤ → Type 0) → OutMachine A M → OutMachine A M → RunStop → Type 0
IsComposeStop {A} {M} put_outside chain_outside f g (stop.Range n) =
    (m : M) × HasMap f m × (((a : A) × HasAtomIn g a × put_outside m a n) ⊎ ((k : M) × HasMap g k × chain_outside m k n))
IsComposeStop put_outside chain_outside f g stop.Memory = ⊤
