use Rattle.std.proofs.Common.{map, arith, refl}
use Rattle.label_core.specs.Formula.{plain_formula}
use Rattle.sta_core.specs.Machine.{plain_rule}
use Rattle.sta_classes.proofs.Grown.{grown_first, grown_more, grown_all}
use Rattle.sta_min.specs.Values.{IsGuardAt}
use Rattle.sta_min.proofs.values.add_guards.Goals as goal

pub rules-init : goal.rules-init
rules-init g c = grown_first (λ r. IsGuardAt c.args.constructor (plain_rule r)) c.args.rules.now (map plain_formula c.args.guards.now.items) (map plain_formula c.args.guards.now.items) refl

pub rules-preserved : goal.rules-preserved
rules-preserved g c =
    grown_more (λ r. IsGuardAt c.args.constructor (plain_rule r)) c.args.rules.now (map plain_formula c.args.guards.now.items) (map plain_formula c.rules.guards.items) (map plain_formula c.add_guard.new.guards.items) c.rules.rule-index c.rule-item.result c.rules-test.true c.rule-item.is c.rules.invariant c.in_ok-add_guard.ensures

pub returns : goal.returns
returns g c = grown_all (λ r. IsGuardAt c.args.constructor (plain_rule r)) c.args.rules.now (map plain_formula c.args.guards.now.items) (map plain_formula c.rules.guards.items) c.rules.rule-index (omega (arith, c.rules-test.false)) c.rules.invariant
