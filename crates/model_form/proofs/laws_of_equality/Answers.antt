use Rattle.model_form.proofs.Equals.{same_laws, exchanged, same_value}
use Rattle.model_form.proofs.laws_of_equality.Goals as goal

pub returns : goal.returns
returns c = record {
  equivalence = same_laws;
  any_order = exchanged;
  one_value = same_value;
}
