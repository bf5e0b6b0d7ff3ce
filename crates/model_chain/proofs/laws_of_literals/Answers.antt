use Rattle.model_chain.proofs.Meaning.{hold_where_solved, far_has_values}
use Rattle.model_chain.proofs.laws_of_literals.Goals as goal

pub returns : goal.returns
returns c = record {
  solved = hold_where_solved;
  far = far_has_values;
}
