use Rattle.std.proofs.Common.{◌≡◌, ◌≤◌, ℤ, length}
use Rattle.model_form.specs.Sums.{Sum}
use Rattle.model_form.specs.Simpler.{add_open}
use Rattle.lin_form.specs.Nest.{nest_front, base_of, divisors_of}
use Rattle.lin_form.proofs.simpler.count_left.Given as goal

abbrev pub invariant-loop-i : goal.invariant-loop-i
invariant-loop-i l = record {
  few : l.i ≤ length (divisors_of l.inner);
  same : (c : ℤ) (s : Sum) → add_open l.by c (nest_front l.i (base_of l.inner) (divisors_of l.inner)) s ≡ add_open l.by c l.inner s;
}
