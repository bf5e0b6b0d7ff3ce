use Rattle.std.proofs.Common.{refl, ap, subst, ◌∙◌}
use Rattle.label_core.specs.Formula.{plain_formula}
use Rattle.sta_classes.specs.Rows.{lists_of}
use Rattle.sta_min.specs.Targets.{IsGuardOfAny}
use Rattle.sta_min.proofs.written.rule_over.Goals as goal

pub returns : goal.returns
returns g c = record {
  constructor_is = refl;
  demands_are = c.in_ok-demands.ensures ∙ ap lists_of c.deref-2.ensures.value;
  guard = subst (λ l. IsGuardOfAny g.T.Atom.PartialEq.eq g.T.Theory.atom_holds c.args.table.now c.args.parents.now.constructor l c.args.classes.now (plain_formula c.in_ok-guard.guard)) c.deref.ensures.value c.in_ok-guard.ensures;
}
