use Rattle.std.proofs.Common.{ap, ◌==◌, arith}
use Rattle.sta_min.proofs.Demanding.{free_more}
use Rattle.sta_min.proofs.demands.free_places.Goals as goal

pub places-preserved : goal.places-preserved
places-preserved g c = free_more c.args.table.now c.args.constructor c.places.place c.places.free.items c.push.new.self.items _ c.places.invariant (omega (arith, c.places-test.true, c.requires.rank)) (ap (λ n. n == 1) c.kinds.ensures) c.in_ok-push.ensures.items
