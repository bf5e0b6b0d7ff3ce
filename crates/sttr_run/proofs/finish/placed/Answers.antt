use Rattle.std.proofs.Common.{arith}
use Rattle.std.proofs.lemmas.List.{nil_from_length}
use Rattle.sttr_run.proofs.Placing.{placed_start, placed_more, placed_end}
use Rattle.sttr_run.proofs.finish.placed.Goals as goal

pub demands-init : goal.demands-init
demands-init c = placed_start c.args.demands.items c.new-lists.result.items c.new-lists.ensures.items

pub demands-preserved : goal.demands-preserved
demands-preserved c = placed_more c.args.demands.items c.demands.demands.items c.pop.new.self.items c.demands.lists.items c.place.new.lists.items c.in-Some.demand c.in-Some.ensures.items c.demands.invariant c.in_ok-place.ensures

pub returns : goal.returns
returns c = placed_end c.args.demands.items c.demands.demands.items c.demands.lists.items (nil_from_length c.demands.demands.items (omega (arith, c.in_default.ensures.cases.0, c.demands.demands.ok.0))) c.demands.invariant
