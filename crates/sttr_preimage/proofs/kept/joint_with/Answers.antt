use Rattle.std.proofs.Common.{map, take, take_all, [], ◌∷◌, subst, sym}
use Rattle.sta_core.specs.Machine.{plain_rule}
use Rattle.sttr_core.specs.Machine.{plain_out}
use Rattle.sttr_preimage.specs.Names.{names_in}
use Rattle.sttr_preimage.specs.Kept.{IsBelow, AreJoint}
use Rattle.sttr_preimage.proofs.Atoms.{all_in}
use Rattle.sttr_preimage.proofs.Copying.{take_mapped, push_mapped, item_of}
use Rattle.sttr_preimage.proofs.Keeping.{joint_skip, joint_apart, joint_more}
use Rattle.sttr_preimage.proofs.kept.joint_with.Goals as goal

pub others-preserved-then-other-rule : goal.others-preserved-then-other-rule
others-preserved-then-other-rule g c = λ n m below others.
    joint_skip g.T.Labels.make (g.T.Theory.meaning c.args.theory.now).has g.T.Map.PartialEq.eq n m g.T.Theory.atom_holds (names_in c.args.names.now.keys) (names_in c.others.names.keys) (plain_out c.args.rule.now) (map plain_rule (take c.others.other-index c.args.others.now)) (map plain_rule (take _ c.args.others.now)) (plain_rule c.other-item.result) (map plain_out c.others.made.items)
    (c.others.invariant n m below others) (λ e. c.if-other-rule.true (sym e)) (take_mapped plain_rule c.args.others.now c.others.other-index c.other-item.result c.others-test.true c.other-item.is)

pub others-preserved : goal.others-preserved
others-preserved g c = λ n m below others.
    joint_more g.T.Labels.make (g.T.Theory.meaning c.args.theory.now).has g.T.Map.PartialEq.eq n m g.T.Theory.atom_holds (names_in c.args.names.now.keys) (names_in c.others.names.keys) (names_in c.joint_rule.new.names.keys) (plain_out c.args.rule.now) (map plain_rule (take c.others.other-index c.args.others.now)) (map plain_rule (take _ c.args.others.now)) (plain_rule c.other-item.result)
    (map plain_out c.others.made.items) (map plain_out c.push.new.self.items) (plain_out (record { rule = c.in_ok-rule.rule; term = c.in_ok-term.term })) (c.others.invariant n m below others) below
    (all_in (λ s. IsBelow m (plain_rule s)) c.args.others.now others c.other-item.result (item_of c.args.others.now c.others.other-index c.other-item.result c.others-test.true c.other-item.is)) (sym c.if-other-rule.false) c.in_ok-rule.ensures c.in_ok-term.ensures
    (take_mapped plain_rule c.args.others.now c.others.other-index c.other-item.result c.others-test.true c.other-item.is)
    (push_mapped plain_out c.others.made.items c.push.new.self.items (record { rule = c.in_ok-rule.rule; term = c.in_ok-term.term }) c.in_ok-push.ensures.items)

pub returns : goal.returns
returns g c = λ n m below others.
    subst (λ rs. AreJoint g.T.Labels.make (g.T.Theory.meaning c.args.theory.now).has g.T.Map.PartialEq.eq n m g.T.Theory.atom_holds (names_in c.args.names.now.keys) (names_in c.others.names.keys) (plain_out c.args.rule.now ∷ []) (map plain_rule rs) (map plain_out c.others.made.items)) (take_all c.others.other-index c.args.others.now c.others-test.false) (c.others.invariant n m below others)

pub others-preserved-then-branch : goal.others-preserved-then-branch
others-preserved-then-branch g c = λ n m below others.
    joint_apart g.T.Labels.make (g.T.Theory.meaning c.args.theory.now).has g.T.Map.PartialEq.eq n m g.T.Theory.atom_holds (names_in c.args.names.now.keys) (names_in c.others.names.keys) (plain_out c.args.rule.now) (map plain_rule (take c.others.other-index c.args.others.now)) (map plain_rule (take _ c.args.others.now)) (plain_rule c.other-item.result) (map plain_out c.others.made.items)
    (c.others.invariant n m below others) (c.in_ok-are_apart.ensures c.if-branch.true) (take_mapped plain_rule c.args.others.now c.others.other-index c.other-item.result c.others-test.true c.other-item.is)
