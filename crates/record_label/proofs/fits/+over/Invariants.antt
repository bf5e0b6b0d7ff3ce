use Rattle.std.proofs.Common.{◌↔◌, ◌+◌, ◌*◌, drop}
use Rattle.model_form.specs.Form.{height}
use Rattle.model_form.specs.Over.{AreOver}
use Rattle.lin_form.specs.Terms.{plain_remainders}
use Rattle.record_label.proofs.fits.+over.Given as goal

abbrev pub decreases-is_over : goal.decreases-is_over
decreases-is_over l = 2 * height l.form.now

abbrev pub decreases-is_over_within : goal.decreases-is_over_within
decreases-is_over_within l = 2 * height l.term.now.inner + 1

abbrev pub invariant-is_over-loop-term : goal.invariant-is_over-loop-term
invariant-is_over-loop-term l = AreOver l.fields (plain_remainders (drop l.term-index l.term-items)) ↔ AreOver l.fields (plain_remainders l.term-items)
