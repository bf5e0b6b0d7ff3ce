use Rattle.std.proofs.Common.{arith, subst, sym, ap₂, ◌∙◌, ◌≡◌, ◌++◌, [], get_or, map}
use Rattle.sta_core.specs.Machine.{plain_rule}
use Rattle.sttr_theory.specs.Triples.{firsts, asked}
use Rattle.sttr_preimage.specs.Names.{names_in, tidy, Numbers}
use Rattle.sttr_preimage.specs.Rules.{way_demands}
use Rattle.sttr_preimage.proofs.Copying.{numbered_more, at_mapped, push_mapped}
use Rattle.sttr_preimage.proofs.rules.way_demands.Goals as goal

pub children-preserved : goal.children-preserved
children-preserved g c =
    let old = names_in c.args.names.now.keys in
    let mid = names_in c.children.names.keys in
    let new = names_in c.child_numbers.new.names.keys in
    let i = c.children.child in
    let made = c.in_ok-child_numbers.field-0.items in
    let at : get_or (map (λ d. d.items) c.args.rule.now.demands.items) i [] ≡ c.index.result.now.items = at_mapped (λ d. d.items) c.args.rule.now.demands.items i c.index.result.now [] (omega (arith, c.children-test.true, c.len-child-end.ensures)) c.index.ensures in
    let named : Numbers mid new [] made (way_demands (plain_rule c.args.rule.now) c.args.asked.now i) =
    subst (Numbers mid new [] made) (ap₂ (λ s t. firsts s ++ asked (map tidy t)) (c.deref.ensures.value ∙ sym at) c.triples_at-triples.ensures) c.in_ok-child_numbers.ensures in
    numbered_more old mid new i (way_demands (plain_rule c.args.rule.now) c.args.asked.now) (map (λ d. d.items) c.children.made.items) (map (λ d. d.items) c.push.new.self.items) made c.children.invariant named
    (push_mapped (λ d. d.items) c.children.made.items c.push.new.self.items c.in_ok-child_numbers.field-0 c.in_ok-push.ensures.items)
