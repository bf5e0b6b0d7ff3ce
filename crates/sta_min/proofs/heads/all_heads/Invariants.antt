use Rattle.std.proofs.Common.{[], map}
use Rattle.sta_classes.specs.Grow.{Grown}
use Rattle.sta_min.specs.Heads.{plain_head, IsHeadOf}
use Rattle.sta_min.proofs.Probing.{UpTo}
use Rattle.sta_min.proofs.heads.all_heads.Given as goal

abbrev pub invariant-constructors : goal.invariant-constructors
invariant-constructors g l = Grown [] (map plain_head l.heads.items) (UpTo (IsHeadOf l.table l.count) l.constructor)
