use Rattle.std.proofs.Common.{[], map, length, ◌≤◌, ◌<◌, Contains, subst, sym, ◌∙◌, arith}
use Rattle.std.proofs.lemmas.List.{take_all, get_or_past, length-map, get_or-map}
use Rattle.sttr_run.specs.Picks.{wanted_in}
use Rattle.sttr_run.specs.Sets.{Grown}
use Rattle.sttr_run.proofs.Ascending.{grown_none}
use Rattle.sttr_run.proofs.Wanting.{wanted_step}
use Rattle.sttr_run.proofs.picks.wanted.Goals as goal

pub demands-init : goal.demands-init
demands-init c = subst (λ xs. Grown [] xs (Contains [])) (sym c.new-all.ensures) (grown_none [])

pub demands-preserved-then-child-demand : goal.demands-preserved-then-child-demand
demands-preserved-then-child-demand c =
    let high : length c.demand-item.result.now ≤ c.args.child = omega (arith, c.if-child-demand.true) in
    wanted_step (λ d. map (λ s. s.items) d.now) c.args.demands.now c.demands.demand-index c.args.child c.demand-item.result c.demands-test.true c.demand-item.is c.demands.all.states.items c.demands.all.states.items c.demands.invariant
    (subst (λ xs. Grown c.demands.all.states.items c.demands.all.states.items (Contains xs)) (sym (get_or_past (map (λ s. s.items) c.demand-item.result.now) c.args.child [] (omega (arith, high, length-map c.demand-item.result.now (λ s. s.items))))) (grown_none c.demands.all.states.items))

pub demands-preserved : goal.demands-preserved
demands-preserved c =
    let low : c.args.child < length c.demand-item.result.now = omega (arith, c.if-child-demand.false) in
    wanted_step (λ d. map (λ s. s.items) d.now) c.args.demands.now c.demands.demand-index c.args.child c.demand-item.result c.demands-test.true c.demand-item.is c.demands.all.states.items c.add_each.new.self.states.items c.demands.invariant
    (subst (λ xs. Grown c.demands.all.states.items c.add_each.new.self.states.items (Contains xs)) (c.deref.ensures.value ∙ sym (get_or-map (λ s. s.items) c.demand-item.result.now c.args.child c.index-demand-child.result [] low)) c.in_ok-add_each.ensures)

pub returns : goal.returns
returns c = subst (λ ds. Grown [] c.demands.all.states.items (Contains (wanted_in (map (λ d. map (λ s. s.items) d.now) ds) c.args.child))) (take_all c.demands.demand-index c.args.demands.now (omega (arith, c.demands-test.false))) c.demands.invariant
