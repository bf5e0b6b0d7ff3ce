use Rattle.std.proofs.Common.{◌≡◌, length}
use Rattle.program_check.specs.Waiting.{those_of}
use Rattle.program_check.proofs.waiting.Waiting.next.Given as goal

abbrev pub invariant-rows : goal.invariant-rows
invariant-rows l = those_of l.fn.self ≡ those_of l.self

abbrev pub decreases-rows : goal.decreases-rows
decreases-rows l = length l.self.rows.items
