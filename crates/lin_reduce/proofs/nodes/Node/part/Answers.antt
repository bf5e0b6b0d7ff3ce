use Rattle.std.proofs.Common.{sym, subst}
use Rattle.math_cooper.specs.System.{Solves}
use Rattle.lin_reduce.proofs.Splitting.{part_solvable}
use Rattle.lin_reduce.proofs.nodes.Node.part.Goals as goal

pub returns : goal.returns
returns c = λ n p. part_solvable n c.args.scale c.args.self.now.system.items _ (λ vs w part h. c.in_ok-system.ensures {u = tt} vs w part (subst (Solves vs) (sym c.deref.ensures.value) h)) p
