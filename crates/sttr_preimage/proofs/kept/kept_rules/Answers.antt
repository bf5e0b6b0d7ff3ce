use Rattle.std.proofs.Common.{map, take, take_all, subst}
use Rattle.sta_core.specs.Machine.{plain_rule}
use Rattle.sttr_core.specs.Machine.{plain_out}
use Rattle.sttr_preimage.specs.Names.{names_in}
use Rattle.sttr_preimage.specs.Kept.{IsBelow, AreKept}
use Rattle.sttr_preimage.proofs.Atoms.{all_in}
use Rattle.sttr_preimage.proofs.Copying.{take_mapped, push_mapped, item_of}
use Rattle.sttr_preimage.proofs.Keeping.{kept_more}
use Rattle.sttr_preimage.proofs.kept.kept_rules.Goals as goal

pub rules-preserved : goal.rules-preserved
rules-preserved g c = λ n m below.
    kept_more g.T.Labels.make (g.T.Theory.meaning c.args.theory.now).has g.T.Map.PartialEq.eq n m (names_in c.args.names.now.keys) (names_in c.rules.names.keys) (names_in c.copied_rule.new.names.keys) (map plain_out (take c.rules.rule-index c.args.rules.now)) (map plain_out c.rules.made.items) (map plain_out (take _ c.args.rules.now)) (map plain_out c.push.new.self.items)
    (plain_out c.rule-item.result) (plain_out (record { rule = c.in_ok-rule.rule; term = c.in_ok-term.term })) (c.rules.invariant n m below) (all_in (λ r. IsBelow n (plain_rule r.rule)) c.args.rules.now below c.rule-item.result (item_of c.args.rules.now c.rules.rule-index c.rule-item.result c.rules-test.true c.rule-item.is)) c.in_ok-rule.ensures c.in_ok-term.ensures
    (take_mapped plain_out c.args.rules.now c.rules.rule-index c.rule-item.result c.rules-test.true c.rule-item.is)
    (push_mapped plain_out c.rules.made.items c.push.new.self.items (record { rule = c.in_ok-rule.rule; term = c.in_ok-term.term }) c.in_ok-push.ensures.items)

pub returns : goal.returns
returns g c = λ n m below.
    subst (λ rs. AreKept g.T.Labels.make (g.T.Theory.meaning c.args.theory.now).has g.T.Map.PartialEq.eq n m (names_in c.args.names.now.keys) (names_in c.rules.names.keys) (map plain_out rs) (map plain_out c.rules.made.items)) (take_all c.rules.rule-index c.args.rules.now c.rules-test.false) (c.rules.invariant n m below)
