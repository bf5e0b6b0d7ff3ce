use Rattle.std.proofs.Common.{◌≡◌, drop, ℤ}
use Rattle.model_form.specs.Sums.{scaled_remainders}
use Rattle.model_form.specs.Ranges.{IsOfRemainders, IsCoefficient}
use Rattle.lin_form.specs.Terms.{plain_remainders}
use Rattle.lin_form.proofs.Joined.{joined}
use Rattle.lin_form.proofs.product.scaled_remainders.Given as goal

abbrev pub invariant-loop-term : goal.invariant-loop-term
invariant-loop-term l = record {
  value : joined (plain_remainders l.made.items) (scaled_remainders l.fn.by (plain_remainders (drop l.term-index l.terms))) ≡ scaled_remainders l.fn.by (plain_remainders l.terms);
  range : (n : ℤ) → IsOfRemainders n (plain_remainders l.made.items) → IsCoefficient n;
}
