use Rattle.std.proofs.Common.{map, take, Contains}
use Rattle.sta_ops.specs.Trimmed.{Meets, AreNames}
use Rattle.sta_ops.proofs.trim.name_states.Given as goal

abbrev pub invariant-states : goal.invariant-states
invariant-states l = record {
  meets : Meets l.initial.met.keys l.met.keys (Contains l.states);
  named : AreNames l.met.keys (map (λ s. s) (take l.state-index l.states)) (map (λ s. s) l.names.items);
}
