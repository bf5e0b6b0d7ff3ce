use Rattle.std.proofs.Common.{◌≡◌, ◌+◌, ◌*◌, ◌^◌, ◌≤◌, drop, unsigned_abs}
use Rattle.model_form.specs.Sums.{put_fields}
use Rattle.lin_form.specs.Within.{IsGathered}
use Rattle.lin_form.specs.Terms.{plain_fields}
use Rattle.lin_form.specs.Gathered.{plain_sum}
use Rattle.lin_form.proofs.subst.put_fields.Given as goal

abbrev pub invariant-loop-term : goal.invariant-loop-term
invariant-loop-term l = record {
  value : put_fields (plain_fields (drop l.term-index l.terms)) l.forms (plain_sum l.sum) ≡ put_fields (plain_fields l.terms) l.forms (plain_sum l.initial.sum);
  gathered : IsGathered l.term-index (plain_sum l.sum);
  constant : unsigned_abs l.sum.constant ≤ (l.term-index + 1) * 2 ^ 94;
}
