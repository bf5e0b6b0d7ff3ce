use Rattle.std.proofs.Common.{take, Contains}
use Rattle.fast_build.specs.Items.{items_of}
use Rattle.fast_compose.specs.Copying.{IsFirst}
use Rattle.fast_compose.proofs.copying.first_reached.Given as goal

abbrev pub invariant-reached : goal.invariant-reached
invariant-reached l = IsFirst (items_of l.checked) (λ q i. Contains (take l.own-index l.own-items) q) l.first
