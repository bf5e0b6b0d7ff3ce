use Rattle.std.proofs.Common.{◌≡◌, map, ap, sym, subst, take_all, ◌∙◌}
use Rattle.flat_label.specs.Texts.{side_text, texts_label}
use Rattle.flat_label.specs.Sides.{AreValues}
use Rattle.flat_label.proofs.Values.{values_are}
use Rattle.flat_label.proofs.classes.values_of.Goals as goal

pub returns : goal.returns
returns c =
    let all : map (λ s. side_text s (texts_label c.in_ok-fresh.fresh.items)) c.args.sides.now ≡ c.loop-side.values.items =
    sym (c.loop-side.invariant ∙ ap (map (λ s. side_text s (texts_label c.in_ok-fresh.fresh.items))) (take_all c.loop-side.side-index c.args.sides.now c.loop-side-test.false)) in
    subst (AreValues c.args.sides.now c.args.constants.now.keys) all (values_are c.args.sides.now c.args.constants.now.keys c.in_ok-fresh.fresh.items c.in_ok-fresh.ensures c.requires)
