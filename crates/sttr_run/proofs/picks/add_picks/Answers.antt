use Rattle.std.proofs.Common.{arith}
use Rattle.sttr_run.specs.Picks.{IsWith}
use Rattle.sttr_run.proofs.Pairing.{adds_none, adds_step, adds_end}
use Rattle.sttr_run.proofs.picks.add_picks.Goals as goal

pub picks-init : goal.picks-init
picks-init g c = adds_none (λ x y. IsWith x c.args.fired.now y) c.args.made.now.items

pub picks-preserved : goal.picks-preserved
picks-preserved g c =
    adds_step (λ x y. IsWith x c.args.fired.now y) c.args.picks.now c.picks.pick-index c.args.made.now.items c.picks.made.items c.push.new.self.items c.pick-item.result c.in_ok-with.field-0 c.picks-test.true c.pick-item.is c.in_ok-push.ensures.items c.picks.invariant c.in_ok-with.ensures

pub returns : goal.returns
returns g c = adds_end (λ x y. IsWith x c.args.fired.now y) c.args.picks.now c.picks.pick-index c.args.made.now.items c.picks.made.items (omega (arith, c.picks-test.false)) c.picks.invariant
