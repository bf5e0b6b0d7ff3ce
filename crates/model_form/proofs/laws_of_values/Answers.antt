use Rattle.model_form.proofs.Values.{sum_form-value, product_form-value, remainder_form-value, subst_form-value}
use Rattle.model_form.proofs.Simplified.{simpler_form-value}
use Rattle.model_form.proofs.laws_of_values.Goals as goal

pub returns : goal.returns
returns c = record {
  sum = sum_form-value;
  product = product_form-value;
  remainder = remainder_form-value;
  putting = subst_form-value;
  simpler = simpler_form-value;
}
