use Rattle.std.proofs.Common.{◌≡◌, ℕ, ◌+◌, ◌*◌, ◌^◌, drop}
use Rattle.model_form.specs.Sums.{sign}
use Rattle.model_chain.specs.Literals.{add_places}
use Rattle.lin_form.specs.Terms.{plain_remainders}
use Rattle.lin_solve.specs.Plain.{Within, plain_known}
use Rattle.lin_solve.proofs.rows.add_places.Given as goal

abbrev pub invariant-loop-term : goal.invariant-loop-term
invariant-loop-term l = record {
  row : add_places (plain_known l.known) (sign l.minus) (plain_remainders (drop l.term-index l.terms)) l.row.items ≡ add_places (plain_known l.known) (sign l.minus) (plain_remainders l.terms) l.initial.row.items;
  small : (b : ℕ) → Within b l.initial.row.items → Within (b + l.term-index * 2 ^ 31) l.row.items;
}
