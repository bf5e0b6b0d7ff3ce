use Rattle.std.proofs.Common.{◌≡◌, ◌+◌, ◌*◌, drop}
use Rattle.model_form.specs.Form.{height}
use Rattle.model_chain.specs.Literals.{has_term, has_inner}
use Rattle.lin_form.specs.Terms.{plain_fields, plain_remainders}
use Rattle.lin_solve.proofs.system.+field.Given as goal

abbrev pub decreases-has_field : goal.decreases-has_field
decreases-has_field l = 2 * height l.form.now

abbrev pub decreases-is_within : goal.decreases-is_within
decreases-is_within l = 2 * height l.term.now.inner + 1

abbrev pub invariant-has_field-fields : goal.invariant-has_field-fields
invariant-has_field-fields l = has_term l.field (plain_fields l.term-items) ≡ has_term l.field (plain_fields (drop l.term-index l.term-items))

abbrev pub invariant-has_field-inner : goal.invariant-has_field-inner
invariant-has_field-inner l = has_inner l.field (plain_remainders l.term-items) ≡ has_inner l.field (plain_remainders (drop l.term-index l.term-items))
