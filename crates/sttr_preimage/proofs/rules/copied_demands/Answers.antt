use Rattle.std.proofs.Common.{subst, sym, ap, ◌∙◌, ◌≡◌, [], get_or, map}
use Rattle.sta_core.specs.Machine.{plain_rule}
use Rattle.sttr_preimage.specs.Names.{names_in, side_names, Numbers}
use Rattle.sttr_preimage.specs.Rules.{demands_of}
use Rattle.sttr_preimage.proofs.Copying.{numbered_more, at_mapped, push_mapped}
use Rattle.sttr_preimage.proofs.rules.copied_demands.Goals as goal

pub demands-preserved : goal.demands-preserved
demands-preserved g c =
    let old = names_in c.args.names.now.keys in
    let mid = names_in c.demands.names.keys in
    let new = names_in c.numbers.new.names.keys in
    let i = c.demands.states-index in
    let given = c.deref-states-items.ensures.value in
    let at : get_or (map (λ d. d.items) c.args.rule.now.demands.items) i [] ≡ c.states-item.result.items = ap (λ ds. get_or (map (λ d. d.items) ds) i []) (sym given) ∙ at_mapped (λ d. d.items) c.deref-states-items.result.now i c.states-item.result [] c.demands-test.true c.states-item.is in
    let named : Numbers mid new [] c.in_ok-numbers.field-0.items (demands_of c.args.side (plain_rule c.args.rule.now) i) = subst (λ s. Numbers mid new [] c.in_ok-numbers.field-0.items (side_names c.args.side s)) (c.deref.ensures.value ∙ sym at) c.in_ok-numbers.ensures in
    numbered_more old mid new i (demands_of c.args.side (plain_rule c.args.rule.now)) (map (λ d. d.items) c.demands.made.items) (map (λ d. d.items) c.push.new.self.items) c.in_ok-numbers.field-0.items c.demands.invariant named
    (push_mapped (λ d. d.items) c.demands.made.items c.push.new.self.items c.in_ok-numbers.field-0 c.in_ok-push.ensures.items)
