use Rattle.std.proofs.Common.{◌≡◌, ◌<◌, true, [], map, get_or, length, Contains, sym, ap, subst, ◌∙◌, arith}
use Rattle.std.proofs.lemmas.List.{get_or-map, length-map}
use Rattle.model_sta.specs.Sets.{rows_meet}
use Rattle.model_sta.specs.Least.{rows_of, rows_at}
use Rattle.sta_core.specs.Machine.{plain_rule}
use Rattle.sta_classes.specs.Grow.{Grown}
use Rattle.sta_classes.proofs.Grown.{grown_same}
use Rattle.sta_ops.specs.Opposites.{Asks}
use Rattle.sta_ops.proofs.begun.add_of_rule.Goals as goal

pub returns : goal.returns
returns g c p =
    let qs = rows_at c.args.table.now.found c.args.children.now in
    let ds = map (λ d. d.items) c.args.rule.now.demands.items in
    let low : length c.args.children.now < length c.args.rule.now.demands.items = omega (arith, c.if-children-len.false, c.len.ensures, c.args.rule.now.demands.ok) in
    let wide : length qs ≡ length c.args.children.now = length-map c.args.children.now (λ k. get_or (rows_of c.args.table.now.found) k []) in
    let here : c.deref-2.result.now ≡ get_or ds (length qs) [] =
    c.deref-2.ensures.value ∙ ap (λ d. d.items) c.index.ensures ∙ sym (get_or-map (λ d. d.items) c.args.rule.now.demands.items (length c.args.children.now) c.index.result.now [] low) ∙ ap (λ k. get_or ds k []) (sym wide) in
    let met : rows_meet qs ds ≡ true = ap (λ l. rows_meet qs (map (λ d. d.items) l)) (sym c.deref.ensures.value) ∙ sym c.if-not-demands_met.ensures in
    grown_same c.args.asked.now.keys c.add_states.new.asked.keys (Contains (get_or ds (length qs) [])) (Asks c.args.constructor (plain_rule c.args.rule.now) qs)
    (subst (λ l. Grown c.args.asked.now.keys c.add_states.new.asked.keys (Contains l)) here c.in_ok-add_states.ensures) (λ q at. (c.if-rule-constructor.false, met, at)) (λ q w. w.2) p
