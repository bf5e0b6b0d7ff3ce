use Rattle.std.proofs.Common.{refl}
use Rattle.model_chain.specs.Literals.{related}
use Rattle.lin_solve.specs.Plain.{plain_relation}
use Rattle.lin_solve.proofs.puts.put_literal.Goals as goal

pub returns : goal.returns
returns c = (refl, λ vs i. related (plain_relation c.args.literal.now.atom.relation) (c.in_ok-left.ensures {u = tt} vs i) (c.in_ok-right.ensures {u = tt} vs i))
