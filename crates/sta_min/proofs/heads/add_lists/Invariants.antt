use Rattle.std.proofs.Common.{◌≡◌, map}
use Rattle.sta_classes.specs.Grow.{Grown}
use Rattle.sta_classes.proofs.Grown.{Before}
use Rattle.sta_min.specs.Demands.{free_in}
use Rattle.sta_min.specs.Heads.{plain_head, head_with}
use Rattle.sta_min.proofs.heads.add_lists.Given as goal

abbrev pub invariant-lists : goal.invariant-lists
invariant-lists l = Grown (map plain_head l.initial.heads.items) (map plain_head l.heads.items) (Before (λ v h. head_with l.constructor (free_in l.free) v.items ≡ h) l.lists l.list-index)
