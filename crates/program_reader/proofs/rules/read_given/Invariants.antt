use Rattle.std.proofs.Common.{length, map}
use Rattle.fast_syntax.specs.View.{plain_demand}
use Rattle.label_reader.specs.Results.{left}
use Rattle.program_reader.proofs.RuleForms.{IsGivenSoFar}
use Rattle.program_reader.proofs.rules.read_given.Given as goal

abbrev pub invariant-items : goal.invariant-items
invariant-items l = IsGivenSoFar (map plain_demand l.all.items) (left l.fn.reader) (left l.reader)

abbrev pub decreases-items : goal.decreases-items
decreases-items l = length (left l.reader)
