use Rattle.std.proofs.Common.{to_z, of_z}
use Rattle.std.specs.Int.{w128}
use Rattle.std.proofs.lemmas.Int.{to_z-of_z}
use Rattle.cooper_solve.proofs.Putting.{free_is}
use Rattle.cooper_solve.proofs.put.alone.Goals as goal

pub returns : goal.returns
returns c = free_is c.args.last c.args.offset (record { constant = to_z w128 (of_z w128 c.args.offset); coefficients = c.in_ok-zeros.field-0.items }) c.requires (to_z-of_z w128 c.args.offset c.ranges.offset) (c.in_ok-zeros.ensures {u = tt})
