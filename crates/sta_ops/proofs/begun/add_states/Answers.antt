use Rattle.std.proofs.Common.{◌≡◌, get_or, Contains, refl, subst, arith, eqb-true}
use Rattle.model_sta.proofs.Reached.{same_default}
use Rattle.sta_classes.specs.Grow.{Some}
use Rattle.sta_classes.proofs.Grown.{grown_same, grown_more, grown_all}
use Rattle.sta_ops.proofs.Picking.{grown_key}
use Rattle.sta_ops.proofs.begun.add_states.Goals as goal

pub states-preserved : goal.states-preserved
states-preserved c =
    grown_more (λ s p. s ≡ p) c.args.states.now c.args.asked.now.keys c.states.asked.keys c.insert.new.self.keys c.states.state-index (get_or c.args.states.now c.states.state-index 0) c.states-test.true
    (same_default c.args.states.now c.states.state-index 0 _ c.states-test.true) c.states.invariant (grown_key _ eqb-true c.states.asked.keys c.insert.new.self.keys _ c.in_ok-insert.ensures.keys)

pub returns : goal.returns
returns c =
    grown_same c.args.asked.now.keys c.states.asked.keys (Some (λ s p. s ≡ p) c.args.states.now) (Contains c.args.states.now) (grown_all (λ s p. s ≡ p) c.args.states.now c.args.asked.now.keys c.states.asked.keys c.states.state-index (omega (arith, c.states-test.false)) c.states.invariant)
    (λ p h. (let (r, at, e) = h in subst (Contains c.args.states.now) e at)) (λ p at. (p, at, refl))
