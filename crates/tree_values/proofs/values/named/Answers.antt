use Rattle.std.proofs.Common.{sym}
use Rattle.tree_values.specs.Trees.{meant}
use Rattle.tree_values.proofs.values.named.Goals as goal

pub copied-requires : goal.copied-requires
copied-requires c = (c.requires.given.typed c.args.name.now (meant c.in-Some.tree.now) (sym c.in-Some.ensures)).1
