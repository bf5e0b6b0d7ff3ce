-- What a run needs, and where its atoms, maps and numbers come from.
use Rattle.std.specs.Prelude.{◌≡◌, ◌⊎◌, ◌<◌, ℤ, Bool, true, length, All, Option, Some, None, ⊤}
use Rattle.model_tree.specs.Formula.{EveryAtom}
use Rattle.label_core.specs.Formula.{plain_formula}
use Rattle.model_sttr.specs.Terms.{Term}
use Rattle.model_sttr.specs.Transducer.{Head, identity}
use Rattle.model_sttr.specs.Guards.{MakesBy}
use Rattle.sttr_core.specs.Machine.{OutMachine}
use Rattle.sttr_core.specs.Fits.{EveryMap, LabelsFit}
use Rattle.sttr_theory.specs.Triples.{Triple}
use Rattle.sttr_run.specs.Fits.{SttrStands}
use Rattle.sttr_run.specs.Sources.{HasAtomIn, HasMap, GivesChild}
use Rattle.sttr_run.specs.Plain.{plain_way_term}
use Rattle.sttr_run.specs.declared.triples.Way.{Way}
use Rattle.sttr_run.specs.declared.running.RunStop.{RunStop}
use Rattle.sttr_run.specs.declared.running.RunStop.TheVariants as stop

module _ {T A M : Type 0} (atom_fits : T → A → Type 0) (map_fits map_makes : T → M → Type 0) where
  -- the term makes labels of a theory of which the second speaks
  pub record CanBeAsked (second : OutMachine A M) (term : Term Head M) : Type 0 where
    pub made : T
    pub into : EveryMap (map_makes made) term
    pub speaks : LabelsFit (atom_fits made) (map_fits made) second

  -- the second's rules stand, the demanded states are states of its lookahead, and labels fit
  pub record CanRun (theory : T) (second : OutMachine A M) (term : Term Head M) (triple : Triple) : Type 0 where
    pub stands : SttrStands second
    pub states : All (λ s. s < length second.looks.rules) triple.all
    pub maps : EveryMap (map_fits theory) term
    pub asked : CanBeAsked second term

-- P holds of the term, where there is one
abbrev pub OnTerm : {X : Type 0} → (X → Type 0) → Option X → Type 0
OnTerm P None = ⊤
OnTerm P (Some x) = P x

module _ {T A M : Type 0} (map_eq : M → M → Bool) (is_put : M → A → A → Type 0) (is_chained : M → M → M → Type 0) (fits : A → Type 0) (map_fits : M → Type 0) (map_makes : T → M → Type 0) (second : OutMachine A M) (term : Term Head M) where
  -- an atom of the second with the entries of a map of the term put for the fields
  abbrev pub IsPutAtom : A → Type 0
  IsPutAtom b = (m : M) × MakesBy term m × (a : A) × HasAtomIn second a × is_put m a b

  -- a map of the term, or one with a map of the second after it, or one that is equal to such a map
  abbrev pub IsRunMap : Option Head → M → Type 0
  IsRunMap h n =
      (((h ≡ Some identity) ⊎ GivesChild second) × (m : M) × MakesBy term m × (map_eq m n ≡ true))
      ⊎ ((m : M) × MakesBy term m × (k : M) × HasMap second k × (c : M) × is_chained m k c × (map_eq c n ≡ true) × ((made : T) → map_makes made k → map_makes made n))

  -- the guard's atoms and the term's maps speak of the theory's labels, and come from the term and the second
  pub record WayIsMade (h : Option Head) (y : Way A M) : Type 0 where
    pub guard : EveryAtom fits (plain_formula y.guard)
    pub atoms : EveryAtom IsPutAtom (plain_formula y.guard)
    pub maps : OnTerm (λ z. EveryMap map_fits (plain_way_term z)) y.term
    pub sources : OnTerm (λ z. EveryMap (IsRunMap h) (plain_way_term z)) y.term

-- a number of an atom, or of a map, of the second once a map of the term is put
abbrev pub IsRunStop : {A M : Type 0} → (M → A → ℤ → Type 0) → (M → M → ℤ → Type 0) → OutMachine A M → Term Head M → RunStop → Type 0
IsRunStop {A} {M} put_outside chain_outside second term (stop.Range n) =
    (m : M) × MakesBy term m × (((a : A) × HasAtomIn second a × put_outside m a n) ⊎ ((k : M) × HasMap second k × chain_outside m k n))
IsRunStop put_outside chain_outside second term stop.Memory = ⊤
