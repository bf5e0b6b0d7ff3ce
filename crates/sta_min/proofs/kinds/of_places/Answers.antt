use Rattle.sta_min.proofs.OfKinds.{more_places}
use Rattle.sta_min.proofs.kinds.of_places.Goals as goal

pub places-preserved : goal.places-preserved
places-preserved g c = more_places c.args.table.now c.args.constructor c.places.place c.places.places.items c.push.new.self.items c.in_ok-of_all_kinds.field-0 c.places.invariant c.in_ok-of_all_kinds.ensures c.in_ok-push.ensures.items
