use Rattle.std.proofs.Common.{◌+◌, ap, sym, ◌∙◌, drop_of_length-le}
use Rattle.model_sta.specs.Least.{total}
use Rattle.sta_classes.specs.Rows.{class_counts_at}
use Rattle.sta_classes.specs.declared.class.TheConstants.{CAP}
use Rattle.sta_classes.proofs.Children.{counts_next, capped, counted, one_more}
use Rattle.sta_classes.proofs.class.cost_over.Goals as goal

pub returns-then-more-nodes : goal.returns-then-more-nodes
returns-then-more-nodes g c =
    let next = counts_next c.args.found.now c.args.children.now c.loop-child.child-index c.index-found-child.result c.loop-child-test.true (c.requires c.loop-child.child-index 0 c.loop-child-test.true) in
    capped CAP c.loop-child.nodes _ _ _ c.loop-child.invariant.0 c.if-more-nodes.true (ap (λ n. c.loop-child.nodes + n) (sym next) ∙ c.loop-child.invariant.1)

pub loop-child-preserved : goal.loop-child-preserved
loop-child-preserved g c =
    let next = counts_next c.args.found.now c.args.children.now c.loop-child.child-index c.index-found-child.result c.loop-child-test.true (c.requires c.loop-child.child-index 0 c.loop-child-test.true) in
    one_more CAP c.loop-child.nodes _ _ _ c.loop-child.invariant.0 c.if-more-nodes.false (ap (λ n. c.loop-child.nodes + n) (sym next) ∙ c.loop-child.invariant.1)

pub returns : goal.returns
returns g c =
    counted CAP c.loop-child.nodes (total (class_counts_at c.args.found.now c.args.children.now)) c.loop-child.invariant.0
    (ap (λ ks. c.loop-child.nodes + total (class_counts_at c.args.found.now ks)) (sym (drop_of_length-le c.args.children.now c.loop-child-test.false)) ∙ c.loop-child.invariant.1)
