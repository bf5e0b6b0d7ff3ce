use Rattle.std.proofs.Common.{sym, ◌∙◌}
use Rattle.lin_solve.proofs.Gapped.{alone_value}
use Rattle.lin_solve.proofs.gaps.is_number.Goals as goal

pub returns-then-is_empty : goal.returns-then-is_empty
returns-then-is_empty c = λ t us. alone_value c.args.form.now c.fields.result.now c.remainders.result.now us c.fields.ensures.value c.remainders.ensures.value (sym c.is_empty.ensures ∙ c.if-is_empty.true) (sym c.is_empty-then-is_empty.ensures ∙ t)
