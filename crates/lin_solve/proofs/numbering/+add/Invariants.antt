use Rattle.std.proofs.Common.{◌≡◌, ◌+◌, ◌*◌, drop}
use Rattle.model_form.specs.Form.{height}
use Rattle.model_chain.specs.Literals.{seen, seen_all}
use Rattle.lin_form.specs.Nest.{nest_front, base_of, divisors_of}
use Rattle.lin_form.specs.Terms.{plain_remainders}
use Rattle.lin_solve.specs.Plain.{plain_known, ArePositive}
use Rattle.lin_solve.proofs.numbering.+add.Given as goal

abbrev pub decreases-add_form : goal.decreases-add_form
decreases-add_form l = 2 * height l.form.now

abbrev pub decreases-add_dividend : goal.decreases-add_dividend
decreases-add_dividend l = 2 * height l.inner.now + 1

abbrev pub invariant-add_form-loop-term : goal.invariant-add_form-loop-term
invariant-add_form-loop-term l = record {
  known : seen_all (plain_remainders (drop l.term-index l.term-items)) (plain_known l.known.items) ≡ seen l.form (plain_known l.initial.known.items);
  positive : ArePositive l.initial.known.items → ArePositive l.known.items;
}

abbrev pub invariant-add_dividend-loop-i : goal.invariant-add_dividend-loop-i
invariant-add_dividend-loop-i l = record {
  known : plain_known l.known.items ≡ seen (nest_front l.i (base_of l.inner) (divisors_of l.inner)) (plain_known l.fn.known.items);
  positive : ArePositive l.fn.known.items → ArePositive l.known.items;
}
