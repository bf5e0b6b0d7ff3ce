use Rattle.tree_reader.proofs.Rows.{plain_node}
use Rattle.tree_reader.proofs.trees.close_tree.Goals as goal

pub returns : goal.returns
returns c = plain_node c.args.begun.place c.args.begun.name c.args.begun.labels c.args.begun.children
