use Rattle.program_check.proofs.Numbering.{numbered_item, numbered_items}
use Rattle.program_check.proofs.declarations.Declarations.number.Goals as goal

pub items-preserved : goal.items-preserved
items-preserved c = numbered_item c.args.items.now c.items.place c.index-items-place.result c.items.self c.add.new.self c.items-test.true c.index-items-place.is c.in_ok-add.ensures.types c.in_ok-add.ensures.names c.in_ok-add.ensures.ctors c.items.invariant

pub returns : goal.returns
returns c = numbered_items c.args.items.now c.items.place c.items.self c.items-test.false c.items.invariant
