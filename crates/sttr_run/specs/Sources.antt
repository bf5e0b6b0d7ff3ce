-- The atoms and maps of transducers, and those that come of a run.
use Rattle.std.specs.Prelude.{◌⊎◌, List, Contains}
use Rattle.label_core.specs.Formula.{atoms_in}
use Rattle.model_sttr.specs.Terms.{Occurs}
use Rattle.model_sttr.specs.Transducer.{identity}
use Rattle.model_sttr.specs.Guards.{MakesBy}
use Rattle.sta_core.specs.Machine.{PlainRule}
use Rattle.sttr_core.specs.Machine.{OutMachine}

-- the atom stands in a guard
abbrev pub HasAtom : {A : Type 0} → List (List (PlainRule A)) → A → Type 0
HasAtom {A} rules a = (those : List (PlainRule A)) × Contains rules those × (r : PlainRule A) × Contains those r × Contains (atoms_in r.guard) a

module _ {A M : Type 0} where
  -- it stands in a guard of the lookahead or of a rule
  abbrev pub HasAtomIn : OutMachine A M → A → Type 0
  HasAtomIn d a = HasAtom d.looks.rules a ⊎ ((those : List _) × Contains d.rules those × (r : _) × Contains those r × Contains (atoms_in r.rule.guard) a)

  -- the map stands in a term
  abbrev pub HasMap : OutMachine A M → M → Type 0
  HasMap d m = (those : List _) × Contains d.rules those × (r : _) × Contains those r × MakesBy r.term m

  -- a rule gives a child as it is
  abbrev pub GivesChild : OutMachine A M → Type 0
  GivesChild d = (those : List _) × Contains d.rules those × (r : _) × Contains those r × (j : _) × Occurs identity j r.term
