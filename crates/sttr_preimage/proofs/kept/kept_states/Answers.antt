use Rattle.std.proofs.Common.{map, take, take_all, subst, sym, All}
use Rattle.sta_core.specs.Machine.{plain_rule}
use Rattle.sttr_core.specs.Machine.{plain_out}
use Rattle.sttr_preimage.specs.Names.{names_in}
use Rattle.sttr_preimage.specs.Kept.{IsBelow, AreKept, AreAllKept}
use Rattle.sttr_preimage.proofs.Atoms.{all_in}
use Rattle.sttr_preimage.proofs.Copying.{take_mapped, push_mapped, item_of}
use Rattle.sttr_preimage.proofs.Keeping.{all_kept_more}
use Rattle.sttr_preimage.proofs.kept.kept_states.Goals as goal

pub states-preserved : goal.states-preserved
states-preserved g c = λ n m below.
    let T = g.T in
    let D = (T.Theory.meaning c.args.theory.now).has in
    let given = c.deref.ensures.value in
    let mid = names_in c.states.names.keys in
    let new = names_in c.kept_rules.new.names.keys in
    let made = map plain_out c.in_ok-kept_rules.field-0.items in
    let these = all_in (λ those. All (λ r. IsBelow n (plain_rule r.rule)) those.items) c.args.states.now below c.rules-item.result (item_of c.args.states.now c.states.rules-index c.rules-item.result c.states-test.true c.rules-item.is) in
    let kept = c.in_ok-kept_rules.ensures n m (subst (All (λ r. IsBelow n (plain_rule r.rule))) (sym given) these) in
    all_kept_more T.Labels.make D T.Map.PartialEq.eq n m (names_in c.args.names.now.keys) mid new (map (λ those. map plain_out those.items) (take c.states.rules-index c.args.states.now)) (map (λ those. map plain_out those.items) c.states.made.items)
    (map (λ those. map plain_out those.items) (take _ c.args.states.now)) (map (λ those. map plain_out those.items) c.push.new.self.items) (map plain_out c.rules-item.result.items) made (c.states.invariant n m below)
    (subst (λ rs. AreKept T.Labels.make D T.Map.PartialEq.eq n m mid new (map plain_out rs) made) given kept)
    (take_mapped (λ those. map plain_out those.items) c.args.states.now c.states.rules-index c.rules-item.result c.states-test.true c.rules-item.is)
    (push_mapped (λ those. map plain_out those.items) c.states.made.items c.push.new.self.items c.in_ok-kept_rules.field-0 c.in_ok-push.ensures.items)

pub returns : goal.returns
returns g c = λ n m below.
    subst (λ rs. AreAllKept g.T.Labels.make (g.T.Theory.meaning c.args.theory.now).has g.T.Map.PartialEq.eq n m (names_in c.args.names.now.keys) (names_in c.states.names.keys) (map (λ those. map plain_out those.items) rs) (map (λ those. map plain_out those.items) c.states.made.items))
    (take_all c.states.rules-index c.args.states.now c.states-test.false) (c.states.invariant n m below)
