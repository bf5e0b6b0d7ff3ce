use Rattle.std.proofs.Common.{map, get_or, [], length, All, subst}
use Rattle.sttr_core.specs.Machine.{plain_out}
use Rattle.sttr_run.specs.Fits.{RuleStands}
use Rattle.sttr_preimage.specs.Names.{names_in}
use Rattle.sttr_preimage.specs.Kept.{AreAllKept, AreJoint}
use Rattle.sttr_preimage.proofs.Copying.{push_mapped}
use Rattle.sttr_preimage.proofs.Selecting.{rules_below, states_below, others_below, own_guards}
use Rattle.sttr_preimage.proofs.Sides.{all_stand}
use Rattle.sta_core.proofs.Meaning.{state_atoms}
use Rattle.sttr_preimage.proofs.restrictions.restricted_rules.Goals as goal

pub returns-clause-others : goal.returns-clause-others
returns-clause-others g c =
    subst (All (RuleStands c.args.lang.now.sta.ranks (length c.args.lang.now.sta.rules))) c.rules_of-others.ensures.rules (all_stand c.args.lang.now.sta.ranks (length c.args.lang.now.sta.rules) c.rules_of-others.result.now c.rules_of-others.ensures.fit)

pub returns-clause-rules : goal.returns-clause-rules
returns-clause-rules g c =
    let T = g.T in
    let D = (T.Theory.meaning c.args.theory.now).has in
    let eq = T.Map.PartialEq.eq in
    let f = c.args.trans.now.sttr in
    let a = c.args.lang.now.sta in
    let n = length f.looks.rules in
    let m = length a.rules in
    let old = names_in c.args.names.now.keys in
    let mid = names_in c.kept_states.new.names.keys in
    let new = names_in c.joint_rules.new.names.keys in
    let kept = map (λ those. map plain_out those.items) c.in_ok-rules.rules.items in
    let joint = map plain_out c.in_ok-joint_rules.field-0.items in
    let below = states_below f c.requires.stands c.rules.result.now c.rules.ensures in
    let own = rules_below f c.requires.stands c.args.trans.now.state c.rules_of-own.result.now c.requires.start c.rules_of-own.ensures in
    let others = others_below a.ranks m c.rules_of-others.result.now c.rules_of-others.ensures.fit in
    record {
      between = mid;
      kept = kept;
      joint = joint;
      are_kept = subst (λ rs. AreAllKept T.Labels.make D eq n m old mid rs kept) c.rules.ensures (c.in_ok-rules.ensures n m below);
      are_joint = subst (λ rs. AreJoint T.Labels.make D eq n m T.Theory.atom_holds mid new rs (get_or a.rules c.args.lang.now.state []) joint) c.rules_of-own.ensures
          (subst (λ rs. AreJoint T.Labels.make D eq n m T.Theory.atom_holds mid new (map plain_out c.rules_of-own.result.now) rs joint) c.rules_of-others.ensures.rules (c.in_ok-joint_rules.ensures n m own others));
      is = push_mapped (λ those. map plain_out those.items) c.in_ok-rules.rules.items c.push.new.self.items c.in_ok-joint_rules.field-0 c.in_ok-push.ensures.items;
    }

pub joint_rules-requires-clause-own : goal.joint_rules-requires-clause-own
joint_rules-requires-clause-own g c = own_guards (g.T.Theory.atom_fits c.args.theory.now) c.args.trans.now.sttr c.args.trans.now.state c.rules_of-own.result.now c.requires.start c.rules_of-own.ensures c.requires.labels.guards

pub joint_rules-requires-clause-guards : goal.joint_rules-requires-clause-guards
joint_rules-requires-clause-guards g c = state_atoms (g.T.Theory.atom_fits c.args.theory.now) c.args.lang.now.sta c.args.lang.now.state c.rules_of-others.result.now c.requires.fit c.requires.state c.rules_of-others.ensures.rules
