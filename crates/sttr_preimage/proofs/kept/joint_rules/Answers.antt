use Rattle.std.proofs.Common.{map, take, take_all, ap, subst, ◌∙◌}
use Rattle.std.proofs.lemmas.List.{map-append}
use Rattle.sta_core.specs.Machine.{plain_rule}
use Rattle.sttr_core.specs.Machine.{plain_out}
use Rattle.sttr_preimage.specs.Names.{names_in}
use Rattle.sttr_preimage.specs.Kept.{IsBelow, AreJoint}
use Rattle.sttr_preimage.proofs.Atoms.{all_in}
use Rattle.sttr_preimage.proofs.Copying.{take_mapped, item_of}
use Rattle.sttr_preimage.proofs.Keeping.{joint_none, joint_both}
use Rattle.sttr_preimage.proofs.kept.joint_rules.Goals as goal

pub rules-init : goal.rules-init
rules-init g c = λ n m below others.
    joint_none g.T.Labels.make (g.T.Theory.meaning c.args.theory.now).has g.T.Map.PartialEq.eq n m g.T.Theory.atom_holds (names_in c.args.names.now.keys) (map plain_rule c.args.others.now) (map plain_out c.new-made.result.items) (ap (map plain_out) c.new-made.ensures.items)

pub rules-preserved : goal.rules-preserved
rules-preserved g c = λ n m below others.
    let own = all_in (λ r. IsBelow n (plain_rule r.rule)) c.args.rules.now below c.rule-item.result (item_of c.args.rules.now c.rules.rule-index c.rule-item.result c.rules-test.true c.rule-item.is) in
    joint_both g.T.Labels.make (g.T.Theory.meaning c.args.theory.now).has g.T.Map.PartialEq.eq n m g.T.Theory.atom_holds (names_in c.args.names.now.keys) (names_in c.rules.names.keys) (names_in c.joint_with.new.names.keys) (map plain_out (take c.rules.rule-index c.args.rules.now)) (map plain_out (take _ c.args.rules.now)) (plain_out c.rule-item.result) (map plain_rule c.args.others.now)
    (map plain_out c.rules.made.items) (map plain_out c.add_all.new.those.items) (map plain_out c.in_ok-joint_with.field-0.items) (c.rules.invariant n m below others) (c.in_ok-joint_with.ensures n m own others)
    (take_mapped plain_out c.args.rules.now c.rules.rule-index c.rule-item.result c.rules-test.true c.rule-item.is) (ap (map plain_out) c.in_ok-add_all.ensures ∙ map-append plain_out c.rules.made.items c.in_ok-joint_with.field-0.items)

pub returns : goal.returns
returns g c = λ n m below others.
    subst (λ rs. AreJoint g.T.Labels.make (g.T.Theory.meaning c.args.theory.now).has g.T.Map.PartialEq.eq n m g.T.Theory.atom_holds (names_in c.args.names.now.keys) (names_in c.rules.names.keys) (map plain_out rs) (map plain_rule c.args.others.now) (map plain_out c.rules.made.items)) (take_all c.rules.rule-index c.args.rules.now c.rules-test.false) (c.rules.invariant n m below others)
