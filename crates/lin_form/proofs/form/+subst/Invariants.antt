use Rattle.std.proofs.Common.{◌≡◌, ◌+◌, ◌*◌, ◌^◌, ◌≤◌, drop, unsigned_abs, ℤ}
use Rattle.model_form.specs.Sums.{put_remainders, subst_form}
use Rattle.model_form.specs.Ranges.{IsOutsideAfter, IsOutsideWithin}
use Rattle.lin_form.specs.Within.{IsGathered}
use Rattle.lin_form.specs.Nest.{nest_front, base_of}
use Rattle.lin_form.specs.Terms.{plain_remainders}
use Rattle.lin_form.specs.Gathered.{plain_sum}
use Rattle.lin_form.proofs.form.+subst.Given as goal

abbrev pub invariant-Form::subst-loop-term : goal.invariant-Form::subst-loop-term
invariant-Form::subst-loop-term l = record {
  value : put_remainders (plain_remainders (drop l.term-index l.term-items)) l.forms (plain_sum l.sum) ≡ put_remainders (plain_remainders l.term-items) l.forms (plain_sum l.initial.sum);
  gathered : IsGathered (8 + l.term-index) (plain_sum l.sum);
  constant : unsigned_abs l.sum.constant ≤ 2 ^ 98 + l.term-index * 2 ^ 43;
  within : (n : ℤ) → IsOutsideWithin (plain_remainders l.term-items) l.forms n → IsOutsideWithin (plain_remainders (drop l.term-index l.term-items)) l.forms n;
}

abbrev pub invariant-Dividend::subst-loop-divisor : goal.invariant-Dividend::subst-loop-divisor
invariant-Dividend::subst-loop-divisor l = record {
  value : l.form ≡ subst_form (nest_front l.divisor-index (base_of l.self) l.divisor-items) l.forms;
  within : (n : ℤ) → IsOutsideAfter (nest_front l.divisor-index (base_of l.self) l.divisor-items) l.forms n → ⊥;
}
