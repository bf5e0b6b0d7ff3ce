use Rattle.std.proofs.Common.{refl}
use Rattle.sta_ops.proofs.Asking.{classes_at}
use Rattle.sta_ops.proofs.opposites.add_rules.Goals as goal

pub add_rule-requires : goal.add_rule-requires
add_rule-requires g c = classes_at c.args.table.now.found c.args.nodes.now c.nodes.node-index c.node-item.result c.node-item.result.children.items c.nodes-test.true c.node-item.is refl c.requires
