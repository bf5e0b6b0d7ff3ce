use Rattle.std.proofs.Common.{arith, subst, refl, inl, inr, Contains}
use Rattle.std.proofs.lemmas.Result.{IfOk-from_err}
use Rattle.sta_classes.specs.Grow.{Grown, Some}
use Rattle.sta_classes.specs.Places.{AsksFor}
use Rattle.sta_classes.proofs.Grown.{nowhere, grown_first, grown_more, grown_all}
use Rattle.sta_classes.proofs.place.Place.new.Goals as goal

pub rules-init : goal.rules-init
rules-init g c = grown_first (AsksFor c.args.constructor c.args.place) c.deref-rule-items.result.now c.states.states.items c.states.states.items refl

pub rules-preserved : goal.rules-preserved
rules-preserved g c =
    grown_more (AsksFor c.args.constructor c.args.place) c.deref-rule-items.result.now c.states.states.items c.rules.states.items c.add_of_rule.new.list.items c.rules.rule-index c.rule-item.result c.rules-test.true c.rule-item.is c.rules.invariant c.in_ok-add_of_rule.ensures

pub states-preserved : goal.states-preserved
states-preserved g c =
    grown_more (λ those. Some (AsksFor c.args.constructor c.args.place) those.items) c.args.rules.now c.new-states.result.items c.states.states.items c.rules.states.items c.states.those-index c.those-item.result c.states-test.true c.those-item.is c.states.invariant
    (subst (λ l. Grown c.states.states.items c.rules.states.items (Some (AsksFor c.args.constructor c.args.place) l)) c.deref-rule-items.ensures.value
    (grown_all (AsksFor c.args.constructor c.args.place) c.deref-rule-items.result.now c.states.states.items c.rules.states.items c.rules.rule-index (omega (arith, c.rules-test.false)) c.rules.invariant))

pub returns-clause-states : goal.returns-clause-states
returns-clause-states g c s =
    let h = grown_all (λ those. Some (AsksFor c.args.constructor c.args.place) those.items) c.args.rules.now c.new-states.result.items c.states.states.items c.states.those-index (omega (arith, c.states-test.false)) c.states.invariant in (
      (λ at. elim ((h s).0 at) [ inl none ↦ absurd (nowhere s (subst (λ l. Contains l s) c.new-states.ensures.items none)) | inr w ↦ w ]),
      (λ w. (h s).1 (inr w)),
    )

pub returns-in_err-add_of_rule : goal.returns-in_err-add_of_rule
returns-in_err-add_of_rule g c = record { states = IfOk-from_err c.from_residual.result _ c.from_residual.ensures.0; numbered = IfOk-from_err c.from_residual.result _ c.from_residual.ensures.0 }
