use Rattle.std.proofs.Common.{◌≡◌, ◌<◌, ◌+◌, length, get_or, [], sym, ap, ◌∙◌, refl, arith}
use Rattle.std.proofs.lemmas.List.{length-map}
use Rattle.sttr_core.specs.Machine.{plain_out}
use Rattle.sttr_single.proofs.Joining.{adds_none, no_joints, adds_more, adds_as, second_low, one_more_place}
use Rattle.sttr_single.proofs.joints.Joining.add_joints_with.Goals as goal

pub seconds-init : goal.seconds-init
seconds-init g c =
    let holds = g.T.Theory.atom_holds in
    let eq = g.T.Map.PartialEq.eq in
    let D = (g.T.Theory.meaning c.args.self.now.theory.now).has in
    let f = c.args.self.now.sttr.now in
    adds_none holds eq D f (λ q i j. (q ≡ c.args.state) × (i ≡ c.args.first) × (j < c.args.first + 1)) c.args.joints.now.items c.args.joints.now.items refl
    (no_joints holds eq D f (λ q i j. (q ≡ c.args.state) × (i ≡ c.args.first) × (j < c.args.first + 1)) (λ q i j r s here unlike. absurd (omega (arith, here.1, here.2, unlike.in_order))))

pub seconds-preserved : goal.seconds-preserved
seconds-preserved g c =
    let holds = g.T.Theory.atom_holds in
    let eq = g.T.Map.PartialEq.eq in
    let D = (g.T.Theory.meaning c.args.self.now.theory.now).has in
    let f = c.args.self.now.sttr.now in
    let q = c.args.state in
    let i = c.args.first in
    let k = c.seconds.second in
    adds_more holds eq D f (λ p l j. (p ≡ q) × (l ≡ i) × (j < k)) (λ p l j. (p ≡ q) × (l ≡ i) × (j ≡ k)) (λ p l j. (p ≡ q) × (l ≡ i) × (j < k + 1))
    (λ p l j r s here unlike. one_more_place (λ x. (p ≡ q) × (l ≡ i) × x) j k (λ low. (here.0, here.1, low)) (λ same. (here.0, here.1, same)) here.2)
    c.args.joints.now.items c.seconds.joints.items c.add_joint.new.joints.items c.seconds.invariant (c.in_ok-add_joint.ensures {u = tt})

pub returns : goal.returns
returns g c =
    let holds = g.T.Theory.atom_holds in
    let eq = g.T.Map.PartialEq.eq in
    let D = (g.T.Theory.meaning c.args.self.now.theory.now).has in
    let f = c.args.self.now.sttr.now in
    let many : length c.rules_of.result.now ≡ length (get_or f.rules c.args.state []) = sym (length-map c.rules_of.result.now plain_out) ∙ ap length c.rules_of.ensures in
    adds_as holds eq D f (λ p l j. (p ≡ c.args.state) × (l ≡ c.args.first) × (j < c.seconds.second)) (λ p l j. (p ≡ c.args.state) × (l ≡ c.args.first))
    (λ p l j r s here unlike. (here.0, here.1, omega (arith, second_low holds eq D f p l j r s unlike, ap (λ x. length (get_or f.rules x [])) here.0, many, c.seconds-test.false)))
    c.args.joints.now.items c.seconds.joints.items c.seconds.invariant
