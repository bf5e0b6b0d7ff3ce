use Rattle.std.proofs.Common.{◌≡◌, ◌<◌, ◌≤◌, All, map, length, get_or, [], sym, subst, ◌∙◌, ap}
use Rattle.std.proofs.lemmas.List.{get_or-map, length-map, take_all}
use Rattle.std.proofs.lemmas.List.Elements.{All-more}
use Rattle.sttr_core.specs.Machine.{plain_out}
use Rattle.sttr_core.specs.Linear.{AreAllLinear}
use Rattle.sttr_core.proofs.linear.not_linear.Goals as goal

pub loop-state-preserved : goal.loop-state-preserved
loop-state-preserved g c =
    let i = c.loop-state.state in
    let those = c.rules-rules.result.now in
    let rules = c.args.sttr.now.rules in
    let low : i < length rules = rw (sym c.rules-rules.ensures, length-map) c.loop-state-test.true in
    let here : get_or rules i [] ≡ map plain_out c.deref.result.now = ap (λ rs. get_or rs i []) (sym c.rules-rules.ensures) ∙ get_or-map _ those i c.index-rules-state.result [] c.loop-state-test.true ∙ ap (λ v. map plain_out v.items) (sym c.index-rules-state.is) ∙ ap (map plain_out) (sym c.deref.ensures.value) in
    All-more AreAllLinear rules i [] low c.loop-state.invariant (subst AreAllLinear (sym here) c.in_default.ensures)

pub returns : goal.returns
returns g c =
    let all : length c.args.sttr.now.rules ≤ c.loop-state.state = rw (sym c.rules-rules.ensures, length-map) c.loop-state-test.false in
    subst (λ rs. All AreAllLinear rs) (take_all c.loop-state.state c.args.sttr.now.rules all) c.loop-state.invariant
