use Rattle.std.proofs.Common.{◌≡◌, ℕ, ◌+◌, ◌*◌, ◌^◌, ◌≤◌, drop, unsigned_abs}
use Rattle.model_form.specs.Simpler.{simpler_sum, add_simpler}
use Rattle.lin_form.specs.Within.{IsGathered}
use Rattle.lin_form.specs.Nest.{nest_front, base_of}
use Rattle.lin_form.specs.Terms.{plain_remainders}
use Rattle.lin_form.specs.Gathered.{plain_sum}
use Rattle.lin_form.proofs.simpler.+simpler.Given as goal

abbrev pub invariant-simpler_sum-loop-term : goal.invariant-simpler_sum-loop-term
invariant-simpler_sum-loop-term l = record {
  value : add_simpler (plain_remainders (drop l.term-index l.term-items)) (plain_sum l.sum) ≡ simpler_sum l.form;
  gathered : IsGathered (8 + l.term-index) (plain_sum l.sum);
  constant : unsigned_abs l.sum.constant ≤ 2 ^ 98 + l.term-index * 2 ^ 43;
}

abbrev pub invariant-simpler_dividend-loop-divisor : goal.invariant-simpler_dividend-loop-divisor
invariant-simpler_dividend-loop-divisor l = record {
  value : plain_sum l.sum ≡ simpler_sum (nest_front l.divisor-index (base_of l.inner) l.divisor-items);
  gathered : (m : ℕ) × IsGathered m (plain_sum l.sum);
}
