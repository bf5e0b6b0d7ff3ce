use Rattle.std.proofs.Common.{map, take}
use Rattle.fast_syntax.specs.Plain.{plain_item}
use Rattle.program_check.specs.Numbered.{AreNumbered}
use Rattle.program_check.proofs.declarations.Declarations.number.Given as goal

abbrev pub invariant-items : goal.invariant-items
invariant-items l = AreNumbered (take l.place (map plain_item l.items)) l.self
