use Rattle.std.proofs.Common.{map, [], inl, inr, ap, sym, arith, subst, Contains}
use Rattle.label_core.specs.Formula.{plain_formula}
use Rattle.sta_core.specs.Machine.{plain_rule}
use Rattle.sta_classes.specs.Grow.{Grown, Some}
use Rattle.sta_classes.proofs.Grown.{nowhere, grown_first, grown_more, grown_all}
use Rattle.sta_theory.proofs.Lists.{map_member, in_map}
use Rattle.sta_min.specs.Values.{IsGuardAt}
use Rattle.sta_min.proofs.values.guards_at.Goals as goal

pub states-init : goal.states-init
states-init g c = grown_first (λ those. Some (λ r. IsGuardAt c.args.constructor (plain_rule r)) those.items) c.args.rules.now [] (map plain_formula c.new-guards.result.items) (ap (map plain_formula) c.new-guards.ensures.items)

pub states-preserved : goal.states-preserved
states-preserved g c =
    grown_more (λ those. Some (λ r. IsGuardAt c.args.constructor (plain_rule r)) those.items) c.args.rules.now [] (map plain_formula c.states.guards.items) (map plain_formula c.add_guards.new.guards.items) c.states.those-index c.those-item.result c.states-test.true c.those-item.is c.states.invariant
    (subst (λ l. Grown (map plain_formula c.states.guards.items) (map plain_formula c.add_guards.new.guards.items) (Some (λ r. IsGuardAt c.args.constructor (plain_rule r)) l)) c.deref.ensures.value c.in_ok-add_guards.ensures)

pub returns : goal.returns
returns g c f =
    let h = grown_all (λ those. Some (λ r. IsGuardAt c.args.constructor (plain_rule r)) those.items) c.args.rules.now [] (map plain_formula c.states.guards.items) c.states.those-index (omega (arith, c.states-test.false)) c.states.invariant in (
      (λ at. elim ((h f).0 at) [
        | inl none ↦ absurd (nowhere f none)
        | inr w ↦ (let (v, at_v, (r, at_r, is)) = w in (map plain_rule v.items, in_map (λ those. map plain_rule those.items) c.args.rules.now v at_v, plain_rule r, in_map plain_rule v.items r at_r, is))
      ]),
      (λ w.
          let (rs, at_rs, p, at_p, is) = w in
          let (v, at_v, same) = map_member (λ those. map plain_rule those.items) c.args.rules.now rs at_rs in
          let (r, at_r, of_r) = map_member plain_rule v.items p (subst (λ l. Contains l p) (sym same) at_p) in
          (h f).1 (inr (v, at_v, (r, at_r, subst (λ q. IsGuardAt c.args.constructor q f) (sym of_r) is)))),
    )
