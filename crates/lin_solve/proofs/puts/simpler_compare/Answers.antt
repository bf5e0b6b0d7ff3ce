use Rattle.model_chain.specs.Literals.{related}
use Rattle.lin_solve.specs.Plain.{plain_relation}
use Rattle.lin_solve.proofs.puts.simpler_compare.Goals as goal

pub returns : goal.returns
returns c = λ vs i. related (plain_relation c.args.atom.now.relation) (c.in_ok-simpler.ensures {u = tt} vs i) (c.in_ok-simpler-2.ensures {u = tt} vs i)
