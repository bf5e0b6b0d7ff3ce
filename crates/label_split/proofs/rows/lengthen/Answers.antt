use Rattle.std.proofs.Common.{refl}
use Rattle.std.proofs.lemmas.Result.{IfOk-from_err}
use Rattle.label_split.proofs.rows.lengthen.Goals as goal

pub returns-in_err-push : goal.returns-in_err-push
returns-in_err-push g c = IfOk-from_err c.from_residual.result _ c.from_residual.ensures.0

pub returns-in_err-row : goal.returns-in_err-row
returns-in_err-row g c = IfOk-from_err c.from_residual-in_err-row.result _ c.from_residual-in_err-row.ensures.0

pub returns-in_ok-row : goal.returns-in_ok-row
returns-in_ok-row g c = (refl, c.in_ok-push.ensures.items)

pub returns-else-len : goal.returns-else-len
returns-else-len g c = (refl, c.in_ok-push.ensures.items)

pub returns-in_default : goal.returns-in_default
returns-in_default g c = (refl, c.in_ok-push.ensures.items)
