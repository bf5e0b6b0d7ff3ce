use Rattle.std.proofs.Common.{◌<◌, ◌+◌, length, All, Contains, sym, ap, subst, ◌∙◌, arith}
use Rattle.sta_min.specs.Kinds.{AreOfAllKinds}
use Rattle.sta_min.proofs.OfKinds.{kinds_known, old_kind, new_kind}
use Rattle.sta_min.proofs.kinds.of_all_kinds.Goals as goal
use Rattle.sta_min.proofs.kinds.of_all_kinds.Goals.{then-not-has_kind+in_ok-push, else-not-has_kind}

pub has_kind-requires-clause-classes : goal.has_kind-requires-clause-classes
has_kind-requires-clause-classes g c = subst (All (λ k. k < length c.args.table.now.found)) (sym c.deref.ensures.value) (kinds_known c.args.table.now c.args.constructor c.args.place c.classes.class c.classes.classes.items c.classes.invariant (length c.args.table.now.found) (omega (arith, c.classes-test.true, c.len-class-end.ensures)))

pub classes-preserved : goal.classes-preserved
classes-preserved g c = elim c.if-not-has_kind.branch [
  | then-not-has_kind+in_ok-push w ↦
      new_kind c.args.table.now c.args.constructor c.args.place c.classes.class c.classes.classes.items c.classes.invariant c.if-not-has_kind.classes.items (ap (λ v. v.items) w.classes-is ∙ w.in_ok-push.ensures.items)
  | else-not-has_kind w ↦
      subst (λ l. AreOfAllKinds c.args.table.now c.args.constructor c.args.place (c.classes.class + 1) l) (sym (ap (λ v. v.items) w.classes-is))
      (old_kind c.args.table.now c.args.constructor c.args.place c.classes.class c.classes.classes.items c.classes.invariant
      (let (k, at, same) = c.has_kind.ensures.0 w.if-not-has_kind.false in (k, subst (λ l. Contains l k) c.deref.ensures.value at, same ∙ c.kind-kind.ensures)))
]
