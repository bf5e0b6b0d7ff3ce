use Rattle.std.proofs.Common.{map, take, take_all, ap, subst}
use Rattle.sttr_core.specs.Machine.{plain_out}
use Rattle.sttr_preimage.specs.Names.{names_in}
use Rattle.sttr_preimage.specs.Called.{called_in, AreOwnRules}
use Rattle.sttr_preimage.proofs.Copying.{take_mapped, push_mapped}
use Rattle.sttr_preimage.proofs.Owning.{own_rules_none, own_rules_more}
use Rattle.sttr_preimage.proofs.outs.own_rules.Goals as goal

pub rules-init : goal.rules-init
rules-init g c =
    own_rules_none g.T.Labels.make (g.T.Theory.meaning c.args.theory.now).has g.T.Map.PartialEq.eq (names_in c.args.names.now.keys) (called_in c.args.called.now.keys) (map plain_out c.new-made.result.items) (ap (map plain_out) c.new-made.ensures.items)

pub rules-preserved : goal.rules-preserved
rules-preserved g c =
    own_rules_more g.T.Labels.make (g.T.Theory.meaning c.args.theory.now).has g.T.Map.PartialEq.eq (names_in c.args.names.now.keys) (names_in c.rules.names.keys) (names_in c.copied_rule.new.names.keys) (called_in c.args.called.now.keys) (called_in c.rules.called.keys) (called_in c.over_children.new.called.keys)
    (map plain_out (take c.rules.out-index c.args.rules.now)) (map plain_out (take _ c.args.rules.now)) (map plain_out c.rules.made.items) (map plain_out c.push.new.self.items) (plain_out c.out-item.result) (plain_out (record { rule = c.in_ok-rule.rule; term = c.in_ok-term.term })) c.rules.invariant c.in_ok-rule.ensures c.in_ok-term.ensures
    (take_mapped plain_out c.args.rules.now c.rules.out-index c.out-item.result c.rules-test.true c.out-item.is)
    (push_mapped plain_out c.rules.made.items c.push.new.self.items (record { rule = c.in_ok-rule.rule; term = c.in_ok-term.term }) c.in_ok-push.ensures.items)

pub returns : goal.returns
returns g c =
    subst (λ rs. AreOwnRules g.T.Labels.make (g.T.Theory.meaning c.args.theory.now).has g.T.Map.PartialEq.eq (names_in c.args.names.now.keys) (names_in c.rules.names.keys) (called_in c.args.called.now.keys) (called_in c.rules.called.keys) (map plain_out rs) (map plain_out c.rules.made.items)) (take_all c.rules.out-index c.args.rules.now c.rules-test.false) c.rules.invariant
