use Rattle.std.proofs.Common.{subst}
use Rattle.tree_files.specs.Types.{Adds}
use Rattle.tree_files.proofs.Numbering.{numbered_more, numbered_all}
use Rattle.tree_files.proofs.types.numbers_of.Goals as goal

pub constructors-preserved : goal.constructors-preserved
constructors-preserved c =
    numbered_more c.args.constructors.now c.constructors.place c.index-constructors-place.result c.constructors.numbers c.add.new.self c.constructors-test.true c.index-constructors-place.is
    (subst (Adds c.constructors.numbers c.add.new.self c.index-constructors-place.result.name) c.in_ok-number.ensures c.in_ok-add.ensures) c.constructors.invariant

pub returns : goal.returns
returns c = numbered_all c.args.constructors.now c.constructors.place c.constructors.numbers c.constructors-test.false c.constructors.invariant
