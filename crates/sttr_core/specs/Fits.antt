-- What is asked of the atoms and the maps of a transducer.
use Rattle.std.specs.Prelude.{All}
use Rattle.model_tree.specs.Formula.{EveryAtom}
use Rattle.model_sttr.specs.Terms.{Term}
use Rattle.model_sttr.specs.Guards.{MakesBy}
use Rattle.sta_core.specs.Sta.{AtomsFit}
use Rattle.sttr_core.specs.Machine.{OutMachine}

-- P holds of each map in the term
abbrev pub EveryMap : {H M : Type 0} → (M → Type 0) → Term H M → Type 0
EveryMap {H} {M} P term = (m : M) → MakesBy term m → P m

-- so of each map of the transducer, as that it makes labels of another theory
abbrev pub MapsAre : {A M : Type 0} → (M → Type 0) → OutMachine A M → Type 0
MapsAre P d = All (λ rules. All (λ r. EveryMap P r.term) rules) d.rules

-- each atom speaks of the theory's labels, and each map is one of them
module _ {A M : Type 0} (atom_fits : A → Type 0) (map_fits : M → Type 0) where
  pub record LabelsFit (d : OutMachine A M) : Type 0 where
    pub looks : AtomsFit atom_fits d.looks
    pub guards : All (λ rules. All (λ r. EveryAtom atom_fits r.rule.guard) rules) d.rules
    pub maps : MapsAre map_fits d
