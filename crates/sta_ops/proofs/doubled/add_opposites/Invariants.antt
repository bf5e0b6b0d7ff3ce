use Rattle.std.proofs.Common.{take}
use Rattle.model_sta.specs.Least.{rows_of}
use Rattle.sta_classes.specs.Rules.{plain_rules}
use Rattle.sta_ops.specs.Doubled.{AddsOpposites}
use Rattle.sta_ops.proofs.doubled.add_opposites.Given as goal

abbrev pub invariant-fresh : goal.invariant-fresh
invariant-fresh g l = AddsOpposites l.opposites.numbers.items (take l.state-index l.opposites.fresh.items) l.ranks (rows_of l.table.found) (plain_rules l.rules) (plain_rules l.initial.doubled.items) (plain_rules l.doubled.items)
