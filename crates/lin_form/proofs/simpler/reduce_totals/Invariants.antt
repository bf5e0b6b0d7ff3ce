use Rattle.std.proofs.Common.{◌≡◌}
use Rattle.model_form.specs.Form.{modulo}
use Rattle.lin_form.proofs.Reducing.{front}
use Rattle.lin_form.proofs.simpler.reduce_totals.Given as goal

abbrev pub invariant-loop-i : goal.invariant-loop-i
invariant-loop-i l = l.totals ≡ front (λ c. modulo c l.by) l.i l.initial.totals
