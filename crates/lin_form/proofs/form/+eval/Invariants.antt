use Rattle.std.proofs.Common.{◌≡◌, ◌*◌, ◌+◌, ◌^◌, ◌≤◌, drop, unsigned_abs}
use Rattle.std.specs.Prelude.{◌+ℤ◌}
use Rattle.model_form.specs.Form.{value, remainders_value}
use Rattle.lin_form.specs.Nest.{nest_front, base_of}
use Rattle.lin_form.specs.Terms.{plain_remainders}
use Rattle.lin_form.proofs.form.+eval.Given as goal

abbrev pub invariant-Form::eval-loop-term : goal.invariant-Form::eval-loop-term
invariant-Form::eval-loop-term l = record {
  value : l.sum +ℤ remainders_value (plain_remainders (drop l.term-index l.term-items)) l.values ≡ value l.self l.values;
  small : unsigned_abs l.sum ≤ 2 ^ 98 + l.term-index * 2 ^ 43;
}

abbrev pub invariant-Dividend::eval-loop-divisor : goal.invariant-Dividend::eval-loop-divisor
invariant-Dividend::eval-loop-divisor l = l.value ≡ value (nest_front l.divisor-index (base_of l.self) l.divisor-items) l.values
