use Rattle.std.proofs.Common.{◌≡◌, ◌<◌, [], map, get_or, length, Contains, refl, sym, ap, subst, ◌∙◌, arith, eqb-true}
use Rattle.std.proofs.lemmas.List.{get_or-map}
use Rattle.std.proofs.lemmas.Result.{IfOk-from_err}
use Rattle.model_sta.proofs.Reached.{same_default}
use Rattle.sta_classes.specs.Grow.{Grown, Some}
use Rattle.sta_classes.specs.Places.{AsksFor}
use Rattle.sta_classes.proofs.Grown.{grown_there, grown_push, grown_first, grown_same, grown_more, grown_all}
use Rattle.sta_classes.proofs.place.add_of_rule.Goals as goal

pub states-init : goal.states-init
states-init g c = grown_first (λ s p. s ≡ p) c.deref-state-items.result.now c.args.list.now.items c.args.list.now.items refl

pub states-preserved-then-contains : goal.states-preserved-then-contains
states-preserved-then-contains g c =
    grown_more (λ s p. s ≡ p) c.deref-state-items.result.now c.args.list.now.items c.states.list.items c.states.list.items c.states.state-index (get_or c.deref-state-items.result.now c.states.state-index 0) c.states-test.true
    (same_default c.deref-state-items.result.now c.states.state-index 0 _ c.states-test.true) c.states.invariant
    (let (k, low, at) = c.if-contains.ensures.cases in
    let x = get_or c.deref-state-items.result.now c.states.state-index 0 in
    grown_there c.states.list.items x (subst (λ l. Contains l x) c.deref.ensures.value (k, low, eqb-true _ _ (at x))))

pub states-preserved : goal.states-preserved
states-preserved g c =
    grown_more (λ s p. s ≡ p) c.deref-state-items.result.now c.args.list.now.items c.states.list.items c.push.new.self.items c.states.state-index (get_or c.deref-state-items.result.now c.states.state-index 0) c.states-test.true
    (same_default c.deref-state-items.result.now c.states.state-index 0 _ c.states-test.true) c.states.invariant
    (subst (λ l. Grown c.states.list.items l (λ p. get_or c.deref-state-items.result.now c.states.state-index 0 ≡ p)) (sym c.in_ok-push.ensures.items) (grown_push c.states.list.items (get_or c.deref-state-items.result.now c.states.state-index 0)))

pub returns : goal.returns
returns g c =
    let low : c.args.place < length c.args.rule.now.demands.items = omega (arith, c.if-place-len.false, c.len.ensures, c.args.rule.now.demands.ok) in
    let here : c.deref-state-items.result.now ≡ get_or (map (λ d. d.items) c.args.rule.now.demands.items) c.args.place [] =
    c.deref-state-items.ensures.value ∙ ap (λ d. d.items) c.index.ensures ∙ sym (get_or-map (λ d. d.items) c.args.rule.now.demands.items c.args.place c.index.result.now [] low) in
    grown_same c.args.list.now.items c.states.list.items (Some (λ s p. s ≡ p) c.deref-state-items.result.now) (AsksFor c.args.constructor c.args.place c.args.rule.now)
    (grown_all (λ s p. s ≡ p) c.deref-state-items.result.now c.args.list.now.items c.states.list.items c.states.state-index (omega (arith, c.states-test.false)) c.states.invariant)
    (λ q h. (let (r, at, e) = h in (c.if-rule-constructor.false, subst (λ l. Contains l q) here (subst (Contains c.deref-state-items.result.now) e at)))) (λ q w. (q, subst (λ l. Contains l q) (sym here) w.1, refl))

pub returns-in_err-push : goal.returns-in_err-push
returns-in_err-push g c = IfOk-from_err c.from_residual.result _ c.from_residual.ensures.0
