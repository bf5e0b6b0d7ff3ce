use Rattle.std.proofs.Common.{map, take}
use Rattle.sta_ops.specs.Trimmed.{Meets, AreNamesOfAll, DemandedBy}
use Rattle.sta_ops.proofs.trim.name_demands.Given as goal

abbrev pub invariant-demands : goal.invariant-demands
invariant-demands l = record {
  meets : Meets l.initial.met.keys l.met.keys (DemandedBy (map (λ d. d.items) l.demands));
  named : AreNamesOfAll l.met.keys (map (λ d. d.items) (take l.states-index l.demands)) (map (λ d. d.items) l.names.items);
}
