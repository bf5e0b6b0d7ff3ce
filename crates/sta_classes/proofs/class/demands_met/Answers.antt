use Rattle.std.proofs.Common.{◌≡◌, ◌<◌, ◌+◌, ◌&&◌, true, false, length, get_or, sym, ap, ap₂, ◌∙◌, arith, drop, drop_of_length-le, map}
use Rattle.std.specs.List.{list_all}
use Rattle.model_sta.specs.Sets.{has, rows_meet}
use Rattle.sta_classes.specs.Rows.{class_rows_at}
use Rattle.sta_classes.proofs.Children.{meet_next}
use Rattle.sta_classes.proofs.Rows.{rows_meet_done}
use Rattle.sta_classes.proofs.class.demands_met.Goals as goal

pub returns-then-i-demands : goal.returns-then-i-demands
returns-then-i-demands g c =
    sym (rows_meet_done (λ d. d.items) (class_rows_at c.args.found.now (drop c.loop-child.i c.args.children.now)) c.args.demands.now c.loop-child.i (omega arith)) ∙ c.loop-child.invariant.2

pub returns-then-not-row_has_each : goal.returns-then-not-row_has_each
returns-then-not-row_has_each g c =
    let inside : c.loop-child.i < length c.args.children.now = omega (arith, c.loop-child.invariant.0, c.loop-child-test.true) in
    let here : get_or c.args.children.now c.loop-child.child-index 0 ≡ get_or c.args.children.now c.loop-child.i 0 = ap (λ k. get_or c.args.children.now k 0) (sym c.loop-child.invariant.0) in
    let met : false ≡ list_all (has (get_or c.args.found.now (get_or c.args.children.now c.loop-child.i 0) c.index-found-child.result).row) c.index-demands-i.result.items =
    sym c.if-not-row_has_each.true ∙ c.row_has_each.ensures ∙ ap₂ (λ k d. list_all (has (get_or c.args.found.now k c.index-found-child.result).row) d) here c.deref.ensures.value in
    let next = meet_next c.args.found.now c.args.children.now c.loop-child.i c.index-found-child.result inside (c.requires c.loop-child.i 0 inside) (λ d. d.items) c.args.demands.now c.index-demands-i.result c.if-i-demands.false c.index-demands-i.is in
    ap (λ b. b && rows_meet (class_rows_at c.args.found.now (drop (c.loop-child.i + 1) c.args.children.now)) (map (λ d. d.items) (drop (c.loop-child.i + 1) c.args.demands.now))) met ∙ sym next ∙ c.loop-child.invariant.2

pub loop-child-preserved : goal.loop-child-preserved
loop-child-preserved g c =
    let inside : c.loop-child.i < length c.args.children.now = omega (arith, c.loop-child.invariant.0, c.loop-child-test.true) in
    let here : get_or c.args.children.now c.loop-child.child-index 0 ≡ get_or c.args.children.now c.loop-child.i 0 = ap (λ k. get_or c.args.children.now k 0) (sym c.loop-child.invariant.0) in
    let met : true ≡ list_all (has (get_or c.args.found.now (get_or c.args.children.now c.loop-child.i 0) c.index-found-child.result).row) c.index-demands-i.result.items =
    sym c.if-not-row_has_each.false ∙ c.row_has_each.ensures ∙ ap₂ (λ k d. list_all (has (get_or c.args.found.now k c.index-found-child.result).row) d) here c.deref.ensures.value in
    let next = meet_next c.args.found.now c.args.children.now c.loop-child.i c.index-found-child.result inside (c.requires c.loop-child.i 0 inside) (λ d. d.items) c.args.demands.now c.index-demands-i.result c.if-i-demands.false c.index-demands-i.is in (
      omega (arith, c.loop-child.invariant.0),
      omega (arith, c.if-i-demands.false),
      ap (λ b. b && rows_meet (class_rows_at c.args.found.now (drop (c.loop-child.i + 1) c.args.children.now)) (map (λ d. d.items) (drop (c.loop-child.i + 1) c.args.demands.now))) met ∙ sym next ∙ c.loop-child.invariant.2,
    )

pub returns : goal.returns
returns g c =
    ap (λ ks. rows_meet (class_rows_at c.args.found.now ks) (map (λ d. d.items) (drop c.loop-child.i c.args.demands.now))) (sym (drop_of_length-le c.args.children.now (omega (arith, c.loop-child.invariant.0, c.loop-child-test.false)))) ∙ c.loop-child.invariant.2
