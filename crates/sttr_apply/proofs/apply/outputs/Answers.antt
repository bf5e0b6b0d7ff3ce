use Rattle.sta_marks.specs.Nodes.{nodes_of}
use Rattle.sttr_apply.proofs.Placed.{stands_whole}
use Rattle.sttr_apply.proofs.apply.outputs.Goals as goal

pub outputs_of-requires-clause-placed : goal.outputs_of-requires-clause-placed
outputs_of-requires-clause-placed g c = stands_whole (nodes_of c.args.tree.now)
