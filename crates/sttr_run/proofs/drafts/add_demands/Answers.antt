use Rattle.std.proofs.Common.{◌∷◌, [], subst, take, sym, arith}
use Rattle.std.proofs.lemmas.List.{take_all}
use Rattle.sttr_run.specs.Drafts.{Asks}
use Rattle.sttr_run.proofs.Asking.{asks_start, asks_more}
use Rattle.sttr_run.proofs.Members.{taken}
use Rattle.sttr_run.proofs.drafts.add_demands.Goals as goal

pub demands-init : goal.demands-init
demands-init c = asks_start c.args.to.now.items

pub demands-preserved : goal.demands-preserved
demands-preserved c =
    subst (Asks c.add_demand.new.to.items c.args.to.now.items) (sym (taken c.args.demands.now c.demands.demand-index c.demand-item.result c.demands-test.true c.demand-item.is))
    (asks_more c.add_demand.new.to.items c.demands.to.items c.args.to.now.items (take c.demands.demand-index c.args.demands.now) (c.demand-item.result ∷ []) c.demands.invariant c.in_ok-add_demand.ensures)

pub returns : goal.returns
returns c = subst (Asks c.demands.to.items c.args.to.now.items) (take_all c.demands.demand-index c.args.demands.now (omega (arith, c.demands-test.false))) c.demands.invariant
