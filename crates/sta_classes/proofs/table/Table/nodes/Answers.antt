use Rattle.sta_classes.proofs.Trees.{nodes_here}
use Rattle.sta_classes.proofs.table.Table.nodes.Goals as goal

pub returns : goal.returns
returns g c = nodes_here _ c.self.inside.known.classes.items _ c.args.self.now c.self.view_is c.args.class c.index.result.now c.requires c.index.ensures
