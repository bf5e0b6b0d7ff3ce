use Rattle.std.proofs.Common.{ap, ◌∙◌, to_z, of_z}
use Rattle.std.specs.Prelude.{unsigned_abs}
use Rattle.std.specs.Int.{w128}
use Rattle.std.proofs.lemmas.Int.{to_z-of_z}
use Rattle.math_cooper.specs.System.{divides_condition}
use Rattle.cooper_solve.proofs.Scaled.{divides_is}
use Rattle.cooper_solve.proofs.scale.divides_one.Goals as goal

pub returns : goal.returns
returns c =
    let back = to_z-of_z w128 c.args.c c.ranges.c in
    divides_is c.args.last (to_z w128 (of_z w128 c.args.c)) c.in_ok-coefficients.coefficients.items c.push.new.self.items (c.in_ok-coefficients.ensures {u = tt}) (c.in_ok-push.ensures {u = tt}).items
    ∙ ap (λ z. divides_condition c.args.last (unsigned_abs z)) back
