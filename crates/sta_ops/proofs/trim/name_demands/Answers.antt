use Rattle.std.proofs.Common.{map, Contains, refl, sym, ap, subst, ◌∙◌, arith}
use Rattle.std.proofs.lemmas.List.{take_all}
use Rattle.sta_theory.proofs.Lists.{in_map}
use Rattle.sta_ops.specs.Trimmed.{states_named, AreNamesOfAll, DemandedBy}
use Rattle.sta_ops.proofs.Trimming.{meets_none, meets_then, named_none, named_next, states_stay}
use Rattle.sta_ops.proofs.trim.name_demands.Goals as goal

pub demands-init : goal.demands-init
demands-init c = record { meets = meets_none c.args.met.now.keys c.args.met.now.keys (DemandedBy (map (λ d. d.items) c.args.demands.now)) refl; named = named_none states_named (λ d k. Contains d k) states_stay c.args.met.now.keys (map (λ d. d.items) c.new-names.result.items) (ap (map (λ d. d.items)) c.new-names.ensures.items) }

pub demands-preserved : goal.demands-preserved
demands-preserved c =
    let i = c.demands.states-index in
    let old = c.demands.met.keys in
    let new = c.name_states.new.met.keys in
    let wanted = DemandedBy (map (λ d. d.items) c.args.demands.now) in
    let (meets, names) = c.in_ok-name_states.ensures in
    record {
      meets = meets_then c.args.met.now.keys old new wanted (Contains c.deref.result.now) wanted c.demands.invariant.meets meets (λ t h. h)
          (λ t at. (c.states-item.result.items, in_map (λ d. d.items) c.args.demands.now c.states-item.result (i, c.demands-test.true, sym c.states-item.is), subst (λ l. Contains l t) c.deref.ensures.value at));
      named = named_next states_named (λ d k. Contains d k) states_stay (λ d. d.items) (λ d. d.items) c.args.demands.now i c.states-item.result c.demands-test.true c.states-item.is old new (Contains c.deref.result.now) c.demands.names.items c.push.new.self.items c.in_ok-name_states.field-0 c.in_ok-push.ensures.items meets
          (names.named ∙ c.deref.ensures.value) (λ k at. names.low k at k refl) c.demands.invariant.named;
    }

pub returns : goal.returns
returns c = (
  c.demands.invariant.meets,
  subst (λ ds. AreNamesOfAll c.demands.met.keys (map (λ d. d.items) ds) (map (λ d. d.items) c.demands.names.items)) (take_all c.demands.states-index c.args.demands.now (omega (arith, c.demands-test.false))) c.demands.invariant.named,
)
