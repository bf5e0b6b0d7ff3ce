use Rattle.std.proofs.Common.{◌≡◌, ◌<◌, ◌∷◌, [], map, take, get_or, length, sym, ap, subst, ◌∙◌}
use Rattle.std.proofs.lemmas.List.{map-append}
use Rattle.model_sta.specs.Least.{rows_of}
use Rattle.model_sta.proofs.Reached.{same_default}
use Rattle.sta_core.specs.Machine.{plain_rule}
use Rattle.sta_classes.specs.Rules.{plain_rules}
use Rattle.sta_ops.specs.Doubled.{AddsOpposites}
use Rattle.sta_ops.specs.Opposites.{AreNotRules}
use Rattle.sta_ops.proofs.Doubling.{adds_push}
use Rattle.sta_ops.proofs.Growing.{taken}
use Rattle.sta_ops.proofs.Moved.{state_at}
use Rattle.sta_ops.proofs.doubled.add_opposites.Goals as goal

pub fresh-preserved : goal.fresh-preserved
fresh-preserved g c =
    let rows = rows_of c.args.table.now.found in
    let numbers = c.args.opposites.now.numbers.items in
    let fresh = c.args.opposites.now.fresh.items in
    let i = c.fresh.state-index in
    let s = get_or c.deref-state-items.result.now i 0 in
    let within : i < length fresh = subst (λ l. i < length l) c.deref-state-items.ensures.value c.fresh-test.true in
    let s_is : s ≡ get_or fresh i s = ap (λ l. get_or l i 0) c.deref-state-items.ensures.value ∙ same_default fresh i 0 s within in
    let low : s < length c.args.rules.now = subst (λ k. k < length c.args.rules.now) (sym s_is) (c.requires.fresh i s within) in
    let rules_is = state_at c.args.rules.now s c.index-rules-state.result c.deref.result.now low c.index-rules-state.is c.deref.ensures.value in
    let those : AreNotRules numbers c.args.ranks.now rows (get_or (plain_rules c.args.rules.now) s []) (map plain_rule c.in_ok-those.those.items) =
    subst (λ ns. AreNotRules ns c.args.ranks.now rows (get_or (plain_rules c.args.rules.now) s []) (map plain_rule c.in_ok-those.those.items)) c.deref-in-fresh.ensures.value
    (subst (λ rs. AreNotRules c.deref-in-fresh.result.now c.args.ranks.now rows rs (map plain_rule c.in_ok-those.those.items)) rules_is c.in_ok-those.ensures) in
    subst (λ fs. AddsOpposites numbers fs c.args.ranks.now rows (plain_rules c.args.rules.now) (plain_rules c.args.doubled.now.items) (plain_rules c.push.new.self.items)) (sym (taken (λ z. z) fresh i s within s_is))
    (adds_push numbers (take i fresh) c.args.ranks.now rows (plain_rules c.args.rules.now) (plain_rules c.args.doubled.now.items) (plain_rules c.fresh.doubled.items) (plain_rules c.push.new.self.items) s (map plain_rule c.in_ok-those.those.items) c.fresh.invariant those
    (ap plain_rules c.in_ok-push.ensures.items ∙ map-append (λ those. map plain_rule those.items) c.fresh.doubled.items (c.in_ok-those.those ∷ [])))
