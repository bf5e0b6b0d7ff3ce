use Rattle.std.proofs.Common.{◌≡◌, ◌++◌, drop, ℤ}
use Rattle.model_form.specs.Sums.{fields_from}
use Rattle.model_form.specs.Ranges.{IsOfFields, IsCoefficient}
use Rattle.lin_form.specs.Terms.{plain_fields}
use Rattle.lin_form.proofs.sum.kept_fields.Given as goal

abbrev pub invariant-loop-i : goal.invariant-loop-i
invariant-loop-i l = record {
  value : plain_fields l.kept.items ++ fields_from l.i (drop l.i l.totals) ≡ fields_from 0 l.totals;
  range : (n : ℤ) → IsOfFields n (plain_fields l.kept.items) → IsCoefficient n;
}
