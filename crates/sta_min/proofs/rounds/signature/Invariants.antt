use Rattle.std.proofs.Common.{◌≡◌, map, take}
use Rattle.sta_min.specs.Rounds.{signature}
use Rattle.sta_min.proofs.rounds.signature.Given as goal

abbrev pub invariant-loop-node : goal.invariant-loop-node
invariant-loop-node l = map (λ x. x) l.made.items ≡ signature l.blocks l.class (take l.node-index l.nodes)
