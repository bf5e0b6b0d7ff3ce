use Rattle.std.proofs.Common.{◌≡◌, ◌*◌, ◌^◌, ◌≤◌, drop, unsigned_abs}
use Rattle.std.specs.Prelude.{◌+ℤ◌}
use Rattle.model_form.specs.Form.{terms_value}
use Rattle.lin_form.specs.Terms.{plain_fields}
use Rattle.lin_form.proofs.value.fields_value.Given as goal

abbrev pub invariant-loop-term : goal.invariant-loop-term
invariant-loop-term l = record {
  value : l.sum +ℤ terms_value (plain_fields (drop l.term-index l.terms)) l.values ≡ terms_value (plain_fields l.terms) l.values;
  small : unsigned_abs l.sum ≤ l.term-index * 2 ^ 94;
}
