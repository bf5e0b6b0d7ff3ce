use Rattle.std.proofs.Common.{ap, subst}
use Rattle.model_sta.specs.Least.{rows_of}
use Rattle.sta_classes.specs.Rules.{plain_rules}
use Rattle.sta_ops.specs.Doubled.{AddsOpposites}
use Rattle.sta_ops.proofs.Moved.{copied_states}
use Rattle.sta_ops.proofs.doubled.doubled.Goals as goal

pub returns : goal.returns
returns g c =
    subst (λ old. AddsOpposites c.args.opposites.now.numbers.items c.args.opposites.now.fresh.items c.args.ranks.now (rows_of c.args.table.now.found) (plain_rules c.args.rules.now) old (plain_rules c.add_opposites.new.doubled.items))
    (copied_states c.args.rules.now (plain_rules c.new-made.result.items) (plain_rules c.add_states.new.rules.items) (ap plain_rules c.new-made.ensures.items) c.in_ok-add_states.ensures) c.in_ok-add_opposites.ensures
