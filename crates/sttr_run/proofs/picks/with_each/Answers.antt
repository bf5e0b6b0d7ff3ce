use Rattle.std.proofs.Common.{[], subst, sym, arith}
use Rattle.sttr_run.specs.Picks.{IsWith, AreWithEach}
use Rattle.sttr_run.proofs.Pairing.{pairs_none, pairs_step, pairs_end}
use Rattle.sttr_run.proofs.picks.with_each.Goals as goal

pub rules-init : goal.rules-init
rules-init g c = subst (AreWithEach c.args.picks.now []) (sym c.new-made.ensures.items) (pairs_none (λ f x y. IsWith x f y) c.args.picks.now)

pub rules-preserved : goal.rules-preserved
rules-preserved g c = pairs_step (λ f x y. IsWith x f y) c.args.fired.now c.rules.rule-index c.args.picks.now c.rules.made.items c.add_picks.new.made.items c.rule-item.result c.rules-test.true c.rule-item.is c.rules.invariant c.in_ok-add_picks.ensures

pub returns : goal.returns
returns g c = pairs_end (λ f x y. IsWith x f y) c.args.fired.now c.rules.rule-index c.args.picks.now c.rules.made.items (omega (arith, c.rules-test.false)) c.rules.invariant
