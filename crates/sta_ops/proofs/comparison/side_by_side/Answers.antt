use Rattle.sta_ops.proofs.Fitting.{beside_fits}
use Rattle.sta_ops.proofs.comparison.side_by_side.Goals as goal

pub new-requires : goal.new-requires
new-requires g c = beside_fits c.in_ok-ranks.ranks.items c.args.ranks.now c.args.first.now c.args.second.now c.in_ok-rules.rules.items c.requires.first c.requires.second c.in_ok-ranks.ensures.items c.in_ok-rules.ensures
