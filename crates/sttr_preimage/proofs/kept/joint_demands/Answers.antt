use Rattle.std.proofs.Common.{arith, subst, sym, ap, ap₂, ◌∙◌, ◌≡◌, ◌++◌, [], get_or, map}
use Rattle.sta_core.specs.Machine.{plain_rule}
use Rattle.sttr_theory.specs.Triples.{firsts, seconds}
use Rattle.sttr_preimage.specs.Names.{names_in, Numbers}
use Rattle.sttr_preimage.specs.Kept.{joint_demands}
use Rattle.sttr_preimage.proofs.Copying.{numbered_more, at_mapped, push_mapped}
use Rattle.sttr_preimage.proofs.kept.joint_demands.Goals as goal

pub children-preserved : goal.children-preserved
children-preserved g c =
    let old = names_in c.args.names.now.keys in
    let mid = names_in c.children.names.keys in
    let new = names_in c.both_numbers.new.names.keys in
    let i = c.children.child in
    let made = c.in_ok-both_numbers.field-0.items in
    let at : get_or (map (λ d. d.items) c.args.rule.now.demands.items) i [] ≡ c.index.result.now.items = at_mapped (λ d. d.items) c.args.rule.now.demands.items i c.index.result.now [] (omega (arith, c.children-test.true, c.len-child-end.ensures)) c.index.ensures in
    let other = c.states_at-second.ensures ∙ ap (λ ds. get_or (map (λ d. d.items) ds) i []) c.deref.ensures.value in
    let named : Numbers mid new [] made (joint_demands (plain_rule c.args.rule.now) (plain_rule c.args.other.now) i) =
    subst (Numbers mid new [] made) (ap₂ (λ s t. firsts s ++ seconds t) (c.deref-in-children.ensures.value ∙ sym at) other) c.in_ok-both_numbers.ensures in
    numbered_more old mid new i (joint_demands (plain_rule c.args.rule.now) (plain_rule c.args.other.now)) (map (λ d. d.items) c.children.made.items) (map (λ d. d.items) c.push.new.self.items) made c.children.invariant named
    (push_mapped (λ d. d.items) c.children.made.items c.push.new.self.items c.in_ok-both_numbers.field-0 c.in_ok-push.ensures.items)
