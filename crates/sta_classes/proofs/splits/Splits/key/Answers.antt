use Rattle.std.proofs.lemmas.Result.{IfOk-from_err}
use Rattle.std.proofs.Common.{◌<◌, ◌∙◌, [], length, get_or, map, ap, sym, arith, take_all}
use Rattle.std.proofs.lemmas.List.{length-map}
use Rattle.model_sta.specs.Sets.{rows_meet}
use Rattle.model_sta.proofs.Reached.{same_default}
use Rattle.sta_core.specs.Machine.{plain_rule}
use Rattle.sta_classes.proofs.Keys.{key_more, met_wide, met_row}
use Rattle.sta_classes.proofs.splits.Splits.key.Goals as goal

pub index-requires-in-loop-place : goal.index-requires-in-loop-place
index-requires-in-loop-place g c =
    let (rows, met) = c.requires.met in
    let low : get_or c.args.children.now c.loop-place.place 0 < length c.args.self.now.met.items = c.requires.known c.loop-place.place 0 c.loop-place-test.true in
    omega (arith, c.loop-place-test.true, c.index.result.now.ok, met_wide c.args.own.now.list.items (length c.args.children.now) rows c.args.self.now.met.items met (get_or c.args.children.now c.loop-place.place 0) c.index.result.now low c.index.ensures)

pub meet-requires : goal.meet-requires
meet-requires g c =
    let (rows, met) = c.requires.met in
    let low : get_or c.args.children.now c.loop-place.place 0 < length c.args.self.now.met.items = c.requires.known c.loop-place.place 0 c.loop-place-test.true in
    ap length (met_row c.args.own.now.list.items (length c.args.children.now) rows c.args.self.now.met.items met (get_or c.args.children.now c.loop-place.place 0) c.index.result.now low c.index.ensures c.loop-place.place c.index-in-loop-place.result.now c.loop-place-test.true c.index-in-loop-place.ensures)
    ∙ length-map c.args.own.now.list.items _ ∙ sym (ap length (c.loop-place.invariant rows met) ∙ length-map c.args.own.now.list.items _)

pub loop-place-preserved : goal.loop-place-preserved
loop-place-preserved g c rows met =
    let low : get_or c.args.children.now c.loop-place.place 0 < length c.args.self.now.met.items = c.requires.known c.loop-place.place 0 c.loop-place-test.true in
    key_more c.args.own.now.list.items rows c.args.children.now c.loop-place.place (get_or c.args.children.now c.loop-place.place 0) c.loop-place.key c.meet.new.self c.index-in-loop-place.result.now c.loop-place-test.true (same_default c.args.children.now c.loop-place.place 0 (get_or c.args.children.now c.loop-place.place 0) c.loop-place-test.true) c.meet.ensures
    (met_row c.args.own.now.list.items (length c.args.children.now) rows c.args.self.now.met.items met (get_or c.args.children.now c.loop-place.place 0) c.index.result.now low c.index.ensures c.loop-place.place c.index-in-loop-place.result.now c.loop-place-test.true c.index-in-loop-place.ensures)
    (c.loop-place.invariant rows met)

pub returns : goal.returns
returns g c rows met = c.loop-place.invariant rows met ∙ ap (λ z. map (λ x. rows_meet (map (λ k. get_or rows k []) z) (plain_rule x.rule.now).demands) c.args.own.now.list.items) (take_all c.loop-place.place c.args.children.now (omega (arith, c.loop-place-test.false)))

pub returns-in_err-key : goal.returns-in_err-key
returns-in_err-key g c = IfOk-from_err c.from_residual.result _ c.from_residual.ensures.0
