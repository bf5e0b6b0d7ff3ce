-- What comes of a second transducer that runs over the outputs of a first one: its atoms, its maps and its numbers.
use Rattle.std.specs.Prelude.{◌≡◌, ◌⊎◌, ℤ, Bool, true, [], ⊤}
use Rattle.sta_core.specs.Machine.{Machine}
use Rattle.sttr_core.specs.Machine.{OutMachine}
use Rattle.sttr_run.specs.Sources.{HasAtomIn, HasMap, GivesChild}
use Rattle.sttr_run.specs.declared.running.RunStop.{RunStop}
use Rattle.sttr_run.specs.declared.running.RunStop.TheVariants as stop

module _ {A M : Type 0} where
  -- an automaton as a second transducer, which gives nothing
  abbrev pub nothing_of : Machine A → OutMachine A M
  nothing_of asked = record { looks = asked; rules = [] }

  -- an atom of the transducer
  abbrev pub IsAtomOf : (A → A → Bool) → OutMachine A M → A → Type 0
  IsAtomOf eq d b = (a : A) × HasAtomIn d a × (eq a b ≡ true)

  module _ (eq : A → A → Bool) (is_put : M → A → A → Type 0) (f g : OutMachine A M) where
    -- one of the second with the entries of a map of the first put for the fields
    abbrev pub IsAtomBehind : A → Type 0
    IsAtomBehind b = (m : M) × HasMap f m × (a : A) × HasAtomIn g a × (d : A) × is_put m a d × (eq d b ≡ true)

    -- one of the first, one behind a map, or one of the second, where the first may give a child as it is
    abbrev pub IsThroughAtom : A → Type 0
    IsThroughAtom b = IsAtomOf eq f b ⊎ IsAtomBehind b ⊎ (GivesChild f × (a : A) × HasAtomIn g a × (eq a b ≡ true))

module _ {T A M : Type 0} (map_eq : M → M → Bool) (is_chained : M → M → M → Type 0) (map_fits : M → Type 0) (map_makes : T → M → Type 0) (f g : OutMachine A M) where
  -- a map of the first that is kept, where K or the second gives a child as it is
  abbrev pub IsKeptMap : Type 0 → M → Type 0
  IsKeptMap K n = (K ⊎ GivesChild g) × (m : M) × HasMap f m × (map_eq m n ≡ true)

  -- one of the first with one of the second after it, which makes labels of whatever theory the second's map does
  abbrev pub IsChainedMap : M → Type 0
  IsChainedMap n = (m : M) × HasMap f m × (k : M) × HasMap g k × (c : M) × is_chained m k c × (map_eq c n ≡ true) × ((made : T) → map_makes made k → map_makes made n)

  -- one of the second, where the first gives a child as it is
  abbrev pub IsOwnMap : M → Type 0
  IsOwnMap n = GivesChild f × (k : M) × HasMap g k × (map_eq k n ≡ true)

  -- any of them
  pub record IsThroughMap (K : Type 0) (n : M) : Type 0 where
    pub fit : map_fits n
    pub source : IsKeptMap K n ⊎ IsChainedMap n ⊎ IsOwnMap n

-- a number of an atom, or of a map, of the second once a map of the first is put
abbrev pub IsThroughStop : {A M : Type 0} → (M → A → ℤ → Type 0) → (M → M → ℤ → Type 0) → OutMachine A M → OutMachine A M → RunStop → Type 0
IsThroughStop {A} {M} put_outside chain_outside f g (stop.Range n) =
    (m : M) × HasMap f m × (((a : A) × HasAtomIn g a × put_outside m a n) ⊎ ((k : M) × HasMap g k × chain_outside m k n))
IsThroughStop put_outside chain_outside f g stop.Memory = ⊤
