use Rattle.std.proofs.Common.{◌≡◌, ◌++◌, drop, ℤ}
use Rattle.model_form.specs.Sums.{scaled_fields}
use Rattle.model_form.specs.Ranges.{IsOfFields, IsCoefficient}
use Rattle.lin_form.specs.Terms.{plain_fields}
use Rattle.lin_form.proofs.product.scaled_fields.Given as goal

abbrev pub invariant-loop-term : goal.invariant-loop-term
invariant-loop-term l = record {
  value : plain_fields l.made.items ++ scaled_fields l.fn.by (plain_fields (drop l.term-index l.terms)) ≡ scaled_fields l.fn.by (plain_fields l.terms);
  range : (n : ℤ) → IsOfFields n (plain_fields l.made.items) → IsCoefficient n;
}
