use Rattle.tree_files.proofs.Opened.{opened_place}
use Rattle.tree_files.proofs.make.place_of.Goals as goal

pub returns : goal.returns
returns c = opened_place c.args.tree.now
