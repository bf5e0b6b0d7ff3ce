use Rattle.std.proofs.Common.{ap, take, ◌∙◌, subst}
use Rattle.model_chain.specs.Literals.{AreLiteralsOver}
use Rattle.lin_solve.specs.Plain.{plain_literals}
use Rattle.lin_solve.proofs.Labels.{first_satisfies, none_satisfies, wide_shown}
use Rattle.lin_solve.proofs.ints.IntsTheory.decide.Goals as goal

pub returns-in_ok-first-in-Sat : goal.returns-in_ok-first-in-Sat
returns-in_ok-first-in-Sat c =
    let t = c.args.self.now in
    let h = rw c.in-Sat.is at c.in_ok-values.ensures in
    first_satisfies t.fields t.few c.args.literals.now c.requires c.in-Sat.values.items c.in_ok-first-in-Sat.field-0.items h.0 h.1 (c.in_ok-first-in-Sat.ensures.first ∙ ap (take t.fields) c.deref.ensures.value) c.in_ok-first-in-Sat.ensures.kept

pub returns-in-Unsat : goal.returns-in-Unsat
returns-in-Unsat c = let t = c.args.self.now in none_satisfies t.fields t.few c.args.literals.now c.requires (rw c.in-Unsat.is at c.in_ok-values.ensures)

pub returns-in-Wide : goal.returns-in-Wide
returns-in-Wide c =
    let t = c.args.self.now in
    wide_shown t.fields t.few c.args.literals.now c.requires c.in-Wide.chain (subst (λ ls. AreLiteralsOver 8 (plain_literals ls)) c.deref-in-Wide.ensures.value c.are_over.ensures) (rw c.in-Wide.is at c.in_ok-values.ensures)
