use Rattle.std.proofs.Common.{sym, ap, subst}
use Rattle.program_check.proofs.Noting.{next, same}
use Rattle.fast_syntax.specs.Plain.{plain_expr}
use Rattle.std.proofs.Common.{Bool}
use Rattle.program_check.specs.Notes.{Notes}
use Rattle.program_check.specs.Known.{next_failures}
use Rattle.program_check.proofs.checker.Checker.check_next.Goals as goal

pub returns-then-part-clause-noted : goal.returns-then-part-clause-noted
returns-then-part-clause-noted c =
    subst (λ (m : Bool). Notes c.args.self.now c.check_remainder.new.self (next_failures c.args.place c.args.before.has_field c.args.before.form m c.args.known.now.has_field c.args.known.now.form (plain_expr c.args.part.now.part)))
    (sym c.if-part.true) c.check_remainder.ensures.noted

pub returns-else-part-clause-noted : goal.returns-else-part-clause-noted
returns-else-part-clause-noted c h =
    let last = c.multiply.ensures.noted h in
    same (ap (λ m. next_failures c.args.place c.args.before.has_field c.args.before.form m c.args.known.now.has_field c.args.known.now.form (plain_expr c.args.part.now.part)) (sym c.if-part.false))
    (next (c.note_if.ensures last.had) last)
