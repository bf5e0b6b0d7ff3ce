use Rattle.std.proofs.Common.{map, []}
use Rattle.sta_classes.specs.Applying.{plain_owned, IsOwned}
use Rattle.sta_classes.specs.Grow.{Grown, Some}
use Rattle.sta_classes.proofs.Grown.{Before, Numbered}
use Rattle.sta_classes.proofs.rules.Rules.new.Given as goal

abbrev pub invariant-states : goal.invariant-states
invariant-states g l = Grown [] (map plain_owned l.list.items) (Numbered (λ s those. Some (IsOwned l.constructor s) those.items) l.rules l.state)

abbrev pub invariant-rules : goal.invariant-rules
invariant-rules g l = Grown (map plain_owned l.initial.list.items) (map plain_owned l.list.items) (Before (IsOwned l.constructor l.state) l.rule-items l.rule-index)
