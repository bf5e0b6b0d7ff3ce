use Rattle.std.proofs.Common.{◌≡◌, ◌+◌, ◌*◌, drop}
use Rattle.model_form.specs.Form.{height}
use Rattle.lin_form.specs.Terms.{plain_fields, plain_remainders}
use Rattle.lin_solve.specs.Cases.{some_loose, some_open}
use Rattle.lin_solve.proofs.cases.+open.Given as goal

abbrev pub decreases-is_open : goal.decreases-is_open
decreases-is_open l = 2 * height l.form.now

abbrev pub decreases-is_open_within : goal.decreases-is_open_within
decreases-is_open_within l = 2 * height l.term.now.inner + 1

abbrev pub invariant-is_open-fields : goal.invariant-is_open-fields
invariant-is_open-fields l = some_loose l.steps l.by (plain_fields l.term-items) ≡ some_loose l.steps l.by (plain_fields (drop l.term-index l.term-items))

abbrev pub invariant-is_open-inner : goal.invariant-is_open-inner
invariant-is_open-inner l = some_open l.steps (plain_remainders l.term-items) ≡ some_open l.steps (plain_remainders (drop l.term-index l.term-items))
