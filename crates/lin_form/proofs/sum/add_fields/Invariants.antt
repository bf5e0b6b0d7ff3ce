use Rattle.std.proofs.Common.{◌≡◌, ℕ, ◌+◌, ◌^◌, ◌≤◌, drop, length}
use Rattle.model_form.specs.Sums.{add_fields}
use Rattle.model_form.specs.Ranges.{AreFields}
use Rattle.lin_form.specs.Within.{TotalsBefore}
use Rattle.lin_form.specs.Terms.{plain_fields}
use Rattle.lin_form.proofs.sum.add_fields.Given as goal

abbrev pub invariant-loop-term : goal.invariant-loop-term
invariant-loop-term l = record {
  value : add_fields l.fn.by (plain_fields (drop l.term-index l.terms)) l.totals ≡ add_fields l.fn.by (plain_fields l.terms) l.initial.totals;
  eight : length l.totals ≡ 8;
  small : (m : ℕ) × (n : ℕ) × (m ≤ 2 ^ 64 + 16) × AreFields n (plain_fields (drop l.term-index l.terms)) × TotalsBefore m n 0 l.totals;
}
