use Rattle.std.proofs.Common.{refl, subst, arith}
use Rattle.std.proofs.lemmas.Result.{IfOk-at_ok, IfOk-from_err, on_ok_weaker}
use Rattle.sta_classes.specs.Splits.{IsMetBy}
use Rattle.sta_classes.proofs.Keeping.{value_added}
use Rattle.sta_classes.proofs.Keys.{met_none, met_more, met_class}
use Rattle.sta_classes.proofs.splits.Splits.add.Goals as goal

pub places-init : goal.places-init
places-init g c = met_none c.args.list.now c.args.row.now c.new-made.result.items c.new-made.ensures.items

pub places-preserved : goal.places-preserved
places-preserved g c =
    let (met, made, items) = c.in_ok-added.ensures in
    met_more c.args.list.now c.args.row.now c.places.place c.places.made.items c.added.new.list.items met items (IfOk-at_ok _ made c.met_at.ensures) c.places.invariant

pub returns : goal.returns
returns g c = on_ok_weaker c.added-2.result (λ added. record {
  met = λ rows h.
      met_class c.args.list.now c.args.places rows c.args.row.now c.args.self.now.met.items c.added-2.new.list.items c.places.made (value_added c.places.made _ c.args.self.now.met.items c.added-2.new.list.items refl added)
      (subst (λ n. IsMetBy c.args.list.now n c.args.row.now c.places.made.items) (omega (arith, c.places.auto.place-end, c.places-test.false)) c.places.invariant) h;
  sets_are = refl;
  told_are = refl;
}) c.added-2.ensures

pub returns-in_err-added : goal.returns-in_err-added
returns-in_err-added g c = IfOk-from_err c.from_residual.result _ c.from_residual.ensures.0
