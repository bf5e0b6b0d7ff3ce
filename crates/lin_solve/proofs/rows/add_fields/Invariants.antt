use Rattle.std.proofs.Common.{◌≡◌, ℕ, ◌+◌, ◌*◌, ◌^◌, drop}
use Rattle.model_form.specs.Sums.{sign, add_fields}
use Rattle.lin_form.specs.Terms.{plain_fields}
use Rattle.lin_solve.specs.Plain.{Within}
use Rattle.lin_solve.proofs.rows.add_fields.Given as goal

abbrev pub invariant-loop-term : goal.invariant-loop-term
invariant-loop-term l = record {
  row : add_fields (sign l.minus) (plain_fields (drop l.term-index l.terms)) l.row.items ≡ add_fields (sign l.minus) (plain_fields l.terms) l.initial.row.items;
  small : (b : ℕ) → Within b l.initial.row.items → Within (b + l.term-index * 2 ^ 31) l.row.items;
}
