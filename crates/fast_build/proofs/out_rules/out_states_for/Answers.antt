use Rattle.std.proofs.Common.{◌≡◌, ◌<◌, map, length, get_or, subst}
use Rattle.fast_tree.specs.Signatures.{plain_signature}
use Rattle.fast_syntax.specs.Plain.{plain_out_rule, plain_trans}
use Rattle.model_sta.proofs.Pairs.{pairwise_more}
use Rattle.sttr_core.specs.Machine.{plain_out as machine_out}
use Rattle.fast_build.specs.Numbers.{number_in}
use Rattle.fast_build.specs.OutRules.{AreOutRulesFor}
use Rattle.fast_build.proofs.out_rules.out_states_for.Goals as goal

pub states-preserved : goal.states-preserved
states-preserved c =
    let ts = c.args.called.now.transformations.items in
    let at = subst (λ xs. c.transformation-item.result ≡ get_or xs c.states.transformation-index c.transformation-item.result) c.deref-transformation-items.ensures.value c.transformation-item.is in
    let below = subst (λ xs. c.states.transformation-index < length xs) c.deref-transformation-items.ensures.value c.states-test.true in
    let Are = AreOutRulesFor (plain_signature c.args.from.now) (plain_signature c.args.into.now) (number_in c.args.looks.now.keys) (number_in c.args.called.now.names.keys) in
    pairwise_more Are (λ those. map machine_out those.items) (λ t. (plain_trans t.now).rules) c.states.states.items c.push.new.self.items c.in_ok-rules.rules
    ts c.states.transformation-index c.transformation-item.result below at c.in_ok-push.ensures.items
    (subst (λ rs. Are (map machine_out c.in_ok-rules.rules.items) (map plain_out_rule rs)) c.deref.ensures.value c.in_ok-rules.ensures) c.states.invariant
