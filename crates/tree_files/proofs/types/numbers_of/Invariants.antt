use Rattle.std.proofs.Common.{map, take}
use Rattle.fast_tree.specs.Signatures.{plain_constructor}
use Rattle.tree_files.specs.Types.{AreNumbered}
use Rattle.tree_files.proofs.types.numbers_of.Given as goal

abbrev pub invariant-constructors : goal.invariant-constructors
invariant-constructors l = AreNumbered (map plain_constructor (take l.place l.constructors)) l.numbers
