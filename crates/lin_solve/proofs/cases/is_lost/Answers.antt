use Rattle.std.proofs.Common.{◌∙◌, sym, ap, not}
use mathlib.Core.Bool.{beq}
use Rattle.lin_solve.proofs.Cased.{lost_in}
use Rattle.lin_solve.proofs.cases.is_lost.Goals as goal

pub returns : goal.returns
returns c = λ yes us h own.
    let l = c.args.literal.now in
    lost_in c.args.case.now l us h (sym c.is_open.ensures ∙ c.if-is_open.false) (sym c.is_open-2.ensures ∙ c.if-is_open-2.false) (ap (λ b. not (beq b l.sign)) (sym c.holds.ensures) ∙ yes) own
