use Rattle.std.proofs.Common.{◌≡◌, map, take, get_or}
use Rattle.sta_min.proofs.parents.first_classes.Given as goal

abbrev pub invariant-loop-block : goal.invariant-loop-block
invariant-loop-block l = map (λ k. k) l.classes.items ≡ map (λ k. get_or l.firsts k 0) (take l.block-index l.blocks)
