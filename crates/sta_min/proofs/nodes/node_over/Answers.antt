use Rattle.std.proofs.Common.{set, ap, ◌∙◌, arith}
use Rattle.std.proofs.lemmas.List.{length-map}
use Rattle.sta_min.specs.Probes.{plain_probe}
use Rattle.sta_min.proofs.NodeFacts.{good_node}
use Rattle.sta_min.proofs.nodes.node_over.Goals as goal

pub class_of-requires-clause-node : goal.class_of-requires-clause-node
class_of-requires-clause-node g c =
    let p = plain_probe c.args.probe.now in
    good_node (g.T.Theory.meaning c.args.theory.now) c.args.steps.now.table.now c.args.steps.now.values.items c.requires.read.values p c.requires.probe c.index.result.now
    (omega (arith, c.requires.probe.low, c.requires.read.values.many, length-map c.args.steps.now.values.items (λ v. v.items))) c.index.ensures c.index-value.result.now c.index-value.ensures c.args.class c.requires.class c.deref-2.result.now
    (c.deref-2.ensures.value ∙ c.in_ok-children.ensures ∙ ap (λ l. set l c.args.probe.now.place c.args.class) c.deref.ensures.value)
