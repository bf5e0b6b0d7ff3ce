use Rattle.std.proofs.Common.{◌≡◌, map, take}
use Rattle.sta_ops.specs.Rules.{joined}
use Rattle.sta_ops.proofs.pairs.join_demands.Given as goal

abbrev pub invariant-loop-i : goal.invariant-loop-i
invariant-loop-i l = map (λ d. d.items) l.demands.items ≡ joined (map (λ d. d.items) (take l.i l.first)) (map (λ d. d.items) (take l.i l.second))
