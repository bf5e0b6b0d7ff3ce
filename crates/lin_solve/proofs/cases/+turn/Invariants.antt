use Rattle.std.proofs.Common.{◌+◌, ◌*◌}
use Rattle.model_form.specs.Form.{height}
use Rattle.lin_solve.proofs.cases.+turn.Given as goal

abbrev pub decreases-turn_for : goal.decreases-turn_for
decreases-turn_for l = 2 * height l.form.now + 1

abbrev pub decreases-turn_within : goal.decreases-turn_within
decreases-turn_within l = 2 * height l.form.now
