use Rattle.std.proofs.Common.{◌≡◌, ◌*◌, ◌+◌, drop}
use Rattle.model_form.specs.Form.{height}
use Rattle.model_form.specs.Simpler.{add_open, add_all_open, reduced}
use Rattle.lin_form.specs.Terms.{plain_remainders}
use Rattle.lin_form.specs.Gathered.{plain_sum}
use Rattle.lin_form.specs.Within.{IsReduced}
use Rattle.lin_form.proofs.simpler.+open.Given as goal

abbrev pub decreases-add_term_open : goal.decreases-add_term_open
decreases-add_term_open l = 3 * height l.inner.now + 2

abbrev pub decreases-add_open : goal.decreases-add_open
decreases-add_open l = 3 * height l.form.now

abbrev pub invariant-add_open-loop-term : goal.invariant-add_open-loop-term
invariant-add_open-loop-term l = record {
  value : reduced l.by (add_all_open l.by l.coefficient (plain_remainders (drop l.term-index l.term-items)) (plain_sum l.sum)) ≡ reduced l.by (add_open l.by l.coefficient l.form (plain_sum l.fn.sum));
  reduced : IsReduced l.by (plain_sum l.sum);
}

abbrev pub decreases-add_dividend : goal.decreases-add_dividend
decreases-add_dividend l = 3 * height l.inner.now + 1
