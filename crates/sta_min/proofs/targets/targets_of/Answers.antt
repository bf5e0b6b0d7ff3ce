use Rattle.std.proofs.Common.{◌≡◌, ◌<◌, [], get_or, length, sym, ap, subst, ◌∙◌, arith}
use Rattle.std.proofs.lemmas.List.{length-map, take_all}
use Rattle.sta_classes.specs.Rows.{lists_of}
use Rattle.sta_classes.proofs.Rows.{list_at}
use Rattle.sta_min.specs.Targets.{AreTargets}
use Rattle.sta_min.proofs.NodeFacts.{value_kept}
use Rattle.sta_min.proofs.Targeting.{no_targets, more_targets}
use Rattle.sta_min.proofs.targets.targets_of.Goals as goal

pub values-init : goal.values-init
values-init g c = no_targets g.T.Theory.label_of g.T.Theory.atom_holds c.args.steps.now.table.now c.args.constructor c.args.children.now (get_or (lists_of c.args.steps.now.values.items) c.args.constructor []) c.new-targets.result.items c.new-targets.ensures.items

pub class_of-requires-clause-node : goal.class_of-requires-clause-node
class_of-requires-clause-node g c =
    let values = c.args.steps.now.values.items in
    let there : c.args.constructor < length values = omega (arith, c.requires.low, c.requires.read.values.many, length-map values (λ v. v.items)) in
    let those : c.deref-value-items.result.now ≡ get_or (lists_of values) c.args.constructor [] = list_at values c.args.constructor c.index.result.now c.deref-value-items.result.now there c.index.ensures c.deref-value-items.ensures.value in
    record {
      low = c.requires.low;
      kept = value_kept (g.T.Theory.meaning c.args.theory.now) c.args.steps.now.table.now (lists_of values) c.requires.read.values c.args.constructor c.requires.low c.values.value-index c.value-item.result (omega (arith, c.values-test.true, ap length those))
          (sym (c.value-item.is ∙ ap (λ l. get_or l c.values.value-index c.value-item.result) those));
      wide = c.requires.wide;
      known = c.requires.known;
    }

pub values-preserved : goal.values-preserved
values-preserved g c =
    let values = c.args.steps.now.values.items in
    let there : c.args.constructor < length values = omega (arith, c.requires.low, c.requires.read.values.many, length-map values (λ v. v.items)) in
    let those : c.deref-value-items.result.now ≡ get_or (lists_of values) c.args.constructor [] = list_at values c.args.constructor c.index.result.now c.deref-value-items.result.now there c.index.ensures c.deref-value-items.ensures.value in
    more_targets g.T.Theory.label_of g.T.Theory.atom_holds c.args.steps.now.table.now c.args.constructor c.args.children.now (get_or (lists_of values) c.args.constructor []) c.values.value-index c.value-item.result (omega (arith, c.values-test.true, ap length those))
    (c.value-item.is ∙ ap (λ l. get_or l c.values.value-index c.value-item.result) those) c.values.targets.items c.add_number.new.list.items c.values.invariant c.in_ok-class_of.field-0 c.in_ok-class_of.ensures c.in_ok-add_number.ensures

pub returns : goal.returns
returns g c =
    let values = c.args.steps.now.values.items in
    let there : c.args.constructor < length values = omega (arith, c.requires.low, c.requires.read.values.many, length-map values (λ v. v.items)) in
    let those : c.deref-value-items.result.now ≡ get_or (lists_of values) c.args.constructor [] = list_at values c.args.constructor c.index.result.now c.deref-value-items.result.now there c.index.ensures c.deref-value-items.ensures.value in
    subst (λ l. AreTargets g.T.Theory.label_of g.T.Theory.atom_holds c.args.steps.now.table.now c.args.constructor c.args.children.now l c.values.targets.items) (take_all c.values.value-index (get_or (lists_of values) c.args.constructor []) (omega (arith, c.values-test.false, ap length those))) c.values.invariant
