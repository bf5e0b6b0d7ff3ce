use Rattle.std.proofs.Common.{sym, subst, Vec, Global}
use Rattle.label_core.specs.declared.theory.Lit.{Lit}
use Rattle.model_chain.specs.Literals.{HoldsAll}
use Rattle.lin_solve.specs.declared.compare.Compare.{Compare}
use Rattle.lin_solve.specs.Plain.{plain_literals}
use Rattle.lin_solve.proofs.bounds.bound_each.Goals.{in-Some+in_ok-bound_field, in_default}
use Rattle.lin_solve.proofs.bounds.bound_each.Goals as goal

pub loop-field-preserved : goal.loop-field-preserved
loop-field-preserved c = λ us eight h.
    elim c.match-value_in.branch [
      | in-Some+in_ok-bound_field w ↦
          subst (λ (v : Vec (Lit Compare) Global). HoldsAll (plain_literals v.items) us) (sym w.literals-is) (w.in_ok-bound_field.ensures {u = tt} us eight (c.loop-field.invariant us eight h))
      | in_default w ↦ subst (λ (v : Vec (Lit Compare) Global). HoldsAll (plain_literals v.items) us) (sym w.literals-is) (c.loop-field.invariant us eight h)
    ]
