use Rattle.std.proofs.Common.{◌≡◌, [], map, get_or, length, ap, sym, ◌∙◌, arith}
use Rattle.std.specs.List.{list_all}
use Rattle.std.proofs.lemmas.Bool.{le-leb}
use Rattle.std.proofs.lemmas.List.{get_or_past, get_or-map, length-map}
use Rattle.model_sta.specs.Sets.{has}
use Rattle.sta_core.specs.Machine.{plain_rule}
use Rattle.sta_classes.specs.Applying.{meets_at}
use Rattle.sta_classes.proofs.Loops.{filled_length, filled_more, filled_all}
use Rattle.sta_classes.proofs.rules.met_at.Goals as goal
use Rattle.sta_classes.proofs.rules.met_at.Goals.{then-place-len, else-place-len}

pub put-requires : goal.put-requires
put-requires g c = omega (arith, ap length c.loop-i.invariant, filled_length (λ x. meets_at c.args.place c.args.row.now (plain_rule x.rule.now)) c.loop-i.i c.args.list.now, c.loop-i-test.true)

pub loop-i-preserved : goal.loop-i-preserved
loop-i-preserved g c =
    let x = get_or c.args.list.now c.loop-i.i c.index-list-i.result in
    let demands = x.rule.now.demands in
    let meets : c.if-place-len.meets ≡ meets_at c.args.place c.args.row.now (plain_rule x.rule.now) = elim c.if-place-len.branch [
      | then-place-len w ↦ w.meets-is ∙ le-leb _ _ w.if-place-len.true ∙ ap (list_all (has c.args.row.now)) (sym (get_or_past (map (λ d. d.items) demands.items) c.args.place [] (omega (arith, w.if-place-len.true, c.len.ensures, demands.ok, length-map demands.items (λ d. d.items)))))
      | else-place-len w ↦
          w.meets-is ∙ w.row_has_each-meets.ensures
          ∙ ap (list_all (has c.args.row.now)) (w.deref.ensures.value ∙ ap (λ d. d.items) w.index.ensures ∙ sym (get_or-map (λ d. d.items) demands.items c.args.place w.index.result.now [] (omega (arith, w.if-place-len.false, c.len.ensures, demands.ok))))
    ] in
    filled_more (λ x. meets_at c.args.place c.args.row.now (plain_rule x.rule.now)) c.if-place-len.meets c.loop-i.i c.args.list.now c.index-list-i.result c.loop-i.made c.put.new.self c.loop-i-test.true c.index-list-i.is (meets ∙ ap (λ x. meets_at c.args.place c.args.row.now (plain_rule x.rule.now)) (sym c.index-list-i.is)) c.put.ensures c.loop-i.invariant

pub returns : goal.returns
returns g c = filled_all (λ x. meets_at c.args.place c.args.row.now (plain_rule x.rule.now)) c.loop-i.i c.args.list.now c.loop-i.made (omega (arith, c.loop-i-test.false)) c.loop-i.invariant
