use Rattle.sta_min.proofs.OfKinds.{more_constructors}
use Rattle.sta_min.proofs.kinds.of_all_places.Goals as goal

pub constructors-preserved : goal.constructors-preserved
constructors-preserved g c = more_constructors c.args.table.now c.args.ranks.now c.constructors.constructor c.constructors.kinds.items c.push.new.self.items c.in_ok-of_places.field-0 c.constructors.invariant c.in_ok-of_places.ensures c.in_ok-push.ensures.items
