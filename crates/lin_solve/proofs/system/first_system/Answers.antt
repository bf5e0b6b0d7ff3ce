use Rattle.std.proofs.Common.{ap, arith, length}
use Rattle.lin_solve.specs.Plain.{plain_literals}
use Rattle.lin_solve.proofs.Numbered.{known_length}
use Rattle.lin_solve.proofs.Pushed.{system_pushed}
use Rattle.lin_solve.proofs.system.first_system.Goals as goal

pub returns : goal.returns
returns c =
    let K = c.args.known.now in
    let e = c.requires.0 in (
      system_pushed (plain_literals c.args.literals.now) c.args.sides.now c.args.bounded _ _ _ _ _ _ _ e e e c.new-out.ensures.items (c.in_ok-push_literals.ensures {u = tt}) (c.in_ok-push_remainders.ensures {u = tt}) (c.in_ok-push_bounds.ensures {u = tt}),
      omega (arith, known_length K, ap length e),
    )
