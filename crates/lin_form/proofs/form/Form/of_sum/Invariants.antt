use Rattle.std.proofs.Common.{◌≡◌, ◌*◌, ◌^◌, ◌≤◌, drop, unsigned_abs}
use Rattle.std.specs.Prelude.{pos}
use Rattle.model_form.specs.Sums.{add_parts, started}
use Rattle.lin_form.specs.Within.{IsGathered}
use Rattle.lin_form.specs.Gathered.{plain_sum, plain_parts}
use Rattle.lin_form.proofs.form.Form.of_sum.Given as goal

abbrev pub invariant-loop-part : goal.invariant-loop-part
invariant-loop-part l = record {
  value : add_parts (plain_parts (drop l.part-index l.parts)) (plain_sum l.sum) ≡ add_parts (plain_parts l.parts) (started (pos 0));
  gathered : IsGathered l.part-index (plain_sum l.sum);
  constant : unsigned_abs l.sum.constant ≤ l.part-index * 2 ^ 94;
}
