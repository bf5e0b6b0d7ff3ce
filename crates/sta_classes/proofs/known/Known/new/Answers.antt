use Rattle.std.proofs.Common.{[], length, get_or, ap, refl, subst, sym, arith}
use Rattle.std.proofs.lemmas.Result.{IfOk-from_err, IfOk-at_ok}
use Rattle.std.proofs.lemmas.List.{length_push}
use Rattle.sta_classes.specs.Rows.{class_rows, lists_of}
use Rattle.sta_classes.specs.Searched.{ArePlaces}
use Rattle.sta_classes.proofs.Adds.{places_more, all_more}
use Rattle.sta_classes.proofs.known.Known.new.Goals as goal

pub places-init : goal.places-init
places-init g c = record { many = ap length c.new-those.ensures.items; each = λ j p low. absurd (omega (arith, low, ap length c.new-those.ensures.items)) }

pub places-preserved : goal.places-preserved
places-preserved g c =
    let (made, is, items) = c.in_ok-added.ensures in
    places_more c.args.rules.now c.constructors.constructor c.places.place c.places.those.items c.added.new.list.items made c.places.invariant (IfOk-at_ok _ is c.new-made.ensures.states) (IfOk-at_ok _ is c.new-made.ensures.numbered) items

pub constructors-preserved : goal.constructors-preserved
constructors-preserved g c = record {
  many = omega (arith, ap length c.in_ok-push.ensures.items, length_push c.constructors.places.items c.places.those, c.constructors.invariant.many);
  each = all_more c.args.rules.now c.args.ranks.now c.constructors.constructor (get_or c.args.ranks.now c.constructors.constructor 0) c.constructors.places.items c.push.new.self.items c.places.those c.constructors.invariant.many c.constructors.invariant.each
      (subst (λ n. ArePlaces c.args.rules.now [] c.constructors.constructor n c.places.those.items) (omega (arith, c.places.auto.place-end, c.places-test.false)) c.places.invariant) refl c.in_ok-push.ensures.items;
}

pub returns-in_err-added : goal.returns-in_err-added
returns-in_err-added g c = record { none = IfOk-from_err c.from_residual.result _ c.from_residual.ensures.0; kinds = IfOk-from_err c.from_residual.result _ c.from_residual.ensures.0 }

pub returns-in_err-push : goal.returns-in_err-push
returns-in_err-push g c = record { none = IfOk-from_err c.from_residual-in_err-push.result _ c.from_residual-in_err-push.ensures.0; kinds = IfOk-from_err c.from_residual-in_err-push.result _ c.from_residual-in_err-push.ensures.0 }

pub returns-clause-kinds : goal.returns-clause-kinds
returns-clause-kinds g c = record {
  many = omega (arith, c.constructors.invariant.many, c.constructors-test.false);
  each = λ n low. subst (λ rows. ArePlaces c.args.rules.now rows n (get_or c.args.ranks.now n 0) (get_or (lists_of c.constructors.places.items) n [])) (sym (ap class_rows c.new-classes.ensures.items)) (c.constructors.invariant.each n (omega (arith, low, c.constructors.invariant.many, c.constructors-test.false)));
}
