use Rattle.std.proofs.Common.{◌≡◌, ◌<◌, ◌+◌, sym, subst, [], arith}
use Rattle.std.specs.Prelude.{⊤}
use Rattle.sttr_single.specs.Joints.{AreJoints}
use Rattle.sttr_single.proofs.Joining.{adds_more, adds_as, state_low, one_more_place}
use Rattle.sttr_single.proofs.joints.Joining.joints.Goals as goal

pub states-preserved : goal.states-preserved
states-preserved g c =
    let holds = g.T.Theory.atom_holds in
    let eq = g.T.Map.PartialEq.eq in
    let D = (g.T.Theory.meaning c.args.self.now.theory.now).has in
    let f = c.args.self.now.sttr.now in
    let k = c.states.state in
    adds_more holds eq D f (λ p l j. p < k) (λ p l j. p ≡ k) (λ p l j. p < k + 1) (λ p l j r s here unlike. one_more_place (λ x. x) p k (λ low. low) (λ same. same) here) [] c.states.joints.items c.add_joints_of.new.joints.items c.states.invariant (c.in_ok-add_joints_of.ensures {u = tt})

pub returns : goal.returns
returns g c =
    let holds = g.T.Theory.atom_holds in
    let eq = g.T.Map.PartialEq.eq in
    let D = (g.T.Theory.meaning c.args.self.now.theory.now).has in
    let f = c.args.self.now.sttr.now in
    let all = adds_as holds eq D f (λ p l j. p < c.states.state) (λ p l j. ⊤) (λ p l j r s here unlike. omega (arith, state_low holds eq D f p l j r s unlike, c.states-test.false)) [] c.states.joints.items c.states.invariant in
    subst (AreJoints holds eq D f (λ p l j. ⊤)) (sym all.1) all.2
