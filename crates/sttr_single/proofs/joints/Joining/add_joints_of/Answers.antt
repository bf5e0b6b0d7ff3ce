use Rattle.std.proofs.Common.{◌≡◌, ◌<◌, ◌+◌, length, get_or, [], sym, ap, ◌∙◌, refl, arith}
use Rattle.std.proofs.lemmas.List.{length-map}
use Rattle.sttr_core.specs.Machine.{plain_out}
use Rattle.sttr_single.proofs.Joining.{adds_none, no_joints, adds_more, adds_as, second_low, one_more_place}
use Rattle.sttr_single.proofs.joints.Joining.add_joints_of.Goals as goal

pub firsts-init : goal.firsts-init
firsts-init g c =
    let holds = g.T.Theory.atom_holds in
    let eq = g.T.Map.PartialEq.eq in
    let D = (g.T.Theory.meaning c.args.self.now.theory.now).has in
    let f = c.args.self.now.sttr.now in
    adds_none holds eq D f (λ q i j. (q ≡ c.args.state) × (i < 0)) c.args.joints.now.items c.args.joints.now.items refl (no_joints holds eq D f (λ q i j. (q ≡ c.args.state) × (i < 0)) (λ q i j r s here unlike. absurd (omega (arith, here.1))))

pub firsts-preserved : goal.firsts-preserved
firsts-preserved g c =
    let holds = g.T.Theory.atom_holds in
    let eq = g.T.Map.PartialEq.eq in
    let D = (g.T.Theory.meaning c.args.self.now.theory.now).has in
    let f = c.args.self.now.sttr.now in
    let q = c.args.state in
    let k = c.firsts.first in
    adds_more holds eq D f (λ p l j. (p ≡ q) × (l < k)) (λ p l j. (p ≡ q) × (l ≡ k)) (λ p l j. (p ≡ q) × (l < k + 1))
    (λ p l j r s here unlike. one_more_place (λ x. (p ≡ q) × x) l k (λ low. (here.0, low)) (λ same. (here.0, same)) here.1)
    c.args.joints.now.items c.firsts.joints.items c.add_joints_with.new.joints.items c.firsts.invariant (c.in_ok-add_joints_with.ensures {u = tt})

pub returns : goal.returns
returns g c =
    let holds = g.T.Theory.atom_holds in
    let eq = g.T.Map.PartialEq.eq in
    let D = (g.T.Theory.meaning c.args.self.now.theory.now).has in
    let f = c.args.self.now.sttr.now in
    let many : length c.rules_of.result.now ≡ length (get_or f.rules c.args.state []) = sym (length-map c.rules_of.result.now plain_out) ∙ ap length c.rules_of.ensures in
    adds_as holds eq D f (λ p l j. (p ≡ c.args.state) × (l < c.firsts.first)) (λ p l j. p ≡ c.args.state)
    (λ p l j r s here unlike. (here, omega (arith, unlike.in_order, second_low holds eq D f p l j r s unlike, ap (λ x. length (get_or f.rules x [])) here, many, c.firsts-test.false)))
    c.args.joints.now.items c.firsts.joints.items c.firsts.invariant
