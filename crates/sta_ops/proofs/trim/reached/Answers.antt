use Rattle.std.proofs.Common.{◌≤◌, ◌∷◌, [], map, length, sym, ap, subst, ◌∙◌, arith}
use Rattle.std.proofs.lemmas.List.{map-append, length-map}
use Rattle.model_sta.proofs.Reached.{same_default}
use Rattle.sta_core.specs.Machine.{plain_rule}
use Rattle.sta_classes.specs.Rules.{plain_rules}
use Rattle.sta_ops.specs.Trimmed.{Meets, AreNamedRules, DemandedByAny}
use Rattle.sta_ops.proofs.Trimming.{none_named, state_named_more, all_named, few_met, rules_own, part_fits}
use Rattle.sta_ops.proofs.trim.reached.Goals as goal

pub places-init : goal.places-init
places-init g c = none_named c.args.sta.now.rules c.args.met.now.keys (plain_rules c.new-rules.result.items) (ap plain_rules c.new-rules.ensures.items) c.requires.start

pub rules_of-requires : goal.rules_of-requires
rules_of-requires g c =
    c.places.invariant.old c.in-Some.state (c.places.place, c.in-Some.ensures.state.0, same_default c.places.met.keys c.places.place c.in-Some.state 0 c.in-Some.ensures.state.0 ∙ c.in-Some.ensures.state.1)

pub places-preserved : goal.places-preserved
places-preserved g c =
    let s = c.in-Some.state in
    let old = c.places.met.keys in
    let new = c.name_rules.new.met.keys in
    let whole = c.args.sta.now.rules in
    let (meets, named) = c.in_ok-name_rules.ensures in
    state_named_more whole c.args.met.now.keys old new (plain_rules c.places.rules.items) c.places.place s (map plain_rule c.in_ok-name_rules.field-0.items) c.places.invariant c.in-Some.ensures.state.0 c.in-Some.ensures.state.1
    (subst (λ rs. Meets old new (DemandedByAny rs)) c.rules_of.ensures.rules meets) (subst (λ rs. AreNamedRules new rs (map plain_rule c.in_ok-name_rules.field-0.items)) c.rules_of.ensures.rules named)
    (λ t d. rules_own c.args.sta.now.ranks (length whole) c.rules_of.result.now c.rules_of.ensures.fit t (subst (λ rs. DemandedByAny rs t) (sym c.rules_of.ensures.rules) d)) (plain_rules c.push.new.self.items)
    (ap plain_rules c.in_ok-push.ensures.items ∙ map-append (λ those. map plain_rule those.items) c.places.rules.items (c.in_ok-name_rules.field-0 ∷ []))

pub returns-in_default-clause-fit : goal.returns-in_default-clause-fit
returns-in_default-clause-fit g c =
    let done : length c.places.met.keys ≤ c.places.place = omega (arith, c.in_default.ensures.state) in
    part_fits c.args.sta.now c.args.met.now.keys c.places.met.keys c.rules-whole.result.now c.places.rules.items c.rules-whole.ensures.rules c.rules-whole.ensures.fit (all_named c.args.sta.now.rules c.args.met.now.keys c.places.met.keys (plain_rules c.places.rules.items) c.places.place c.places.invariant c.state_at.ensures.once done)

pub prove-unreachable-requires : goal.prove-unreachable-requires
prove-unreachable-requires g c =
    let few : length c.places.met.keys ≤ length c.args.sta.now.rules = few_met c.args.sta.now.rules c.args.met.now.keys c.places.met.keys (plain_rules c.places.rules.items) c.places.place c.places.invariant c.as_slice-states.ensures.unique in
    omega (arith, few, ap length c.as_slice-states.ensures.keys, ap length c.rules-whole.ensures.rules, length-map c.rules-whole.result.now (λ those. map plain_rule those.items), c.if-prove.true)

pub returns-clause-fit : goal.returns-clause-fit
returns-clause-fit g c =
    let done : length c.places.met.keys ≤ c.places.place = omega (arith, c.places-test.false, c.if-prove.false, ap length c.as_slice-states.ensures.keys) in
    part_fits c.args.sta.now c.args.met.now.keys c.places.met.keys c.rules-whole.result.now c.places.rules.items c.rules-whole.ensures.rules c.rules-whole.ensures.fit
    (all_named c.args.sta.now.rules c.args.met.now.keys c.places.met.keys (plain_rules c.places.rules.items) c.places.place c.places.invariant c.as_slice-states.ensures.unique done)
