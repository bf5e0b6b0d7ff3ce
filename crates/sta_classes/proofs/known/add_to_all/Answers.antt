use Rattle.std.proofs.lemmas.Result.{IfOk-from_err}
use Rattle.std.proofs.Common.{length, ◌∙◌, ◌<◌, arith, refl}
use Rattle.std.proofs.lemmas.List.{length-set}
use Rattle.sta_classes.specs.Places.{IsNext}
use Rattle.sta_classes.proofs.Adds.{next_more, left_more, next_all, left_all}
use Rattle.sta_classes.proofs.known.add_to_all.Goals as goal

pub places-preserved : goal.places-preserved
places-preserved c =
    let low : c.places.place < length c.places.places.items = omega (arith, c.places-test.true, c.len-place-end.ensures, c.index_mut-places.result.now.ok.0, c.places.invariant.many) in
    record {
      many = length-set c.places.places.items c.places.place c.add.new.self ∙ c.places.invariant.many;
      done = next_more (λ j p q. IsNext c.args.row.now p q) c.index_mut-places.result.now.items c.places.places.items c.places.place c.index_mut.result.now c.add.new.self low c.index_mut.ensures.value c.in_ok-add.ensures c.places.invariant.done c.places.invariant.left;
      left = left_more (λ j p q. IsNext c.args.row.now p q) c.index_mut-places.result.now.items c.places.places.items c.places.place c.index_mut.result.now c.add.new.self c.places.invariant.left;
    }

pub constructors-preserved : goal.constructors-preserved
constructors-preserved c =
    let low : c.constructors.constructor < length c.constructors.all.items = omega (arith, c.constructors-test.true, c.len-constructor-end.ensures, c.args.all.now.ok.0, c.constructors.invariant.many) in
    record {
      many = length-set c.constructors.all.items c.constructors.constructor c.places.places ∙ c.constructors.invariant.many;
      done = next_all c.args.row.now c.args.all.now.items c.constructors.all.items c.constructors.constructor c.index_mut-places.result.now c.places.places low c.index_mut-places.ensures.value (record {
        many = c.places.invariant.many;
        each = λ j p q inside at at'. c.places.invariant.done j p q (omega (arith, inside, c.places-test.false, c.len-place-end.ensures, c.index_mut-places.result.now.ok.0)) at at';
      }) c.constructors.invariant.done c.constructors.invariant.left;
      left = left_all c.args.row.now c.args.all.now.items c.constructors.all.items c.constructors.constructor c.index_mut-places.result.now c.places.places c.constructors.invariant.left;
    }

pub returns-in_err-add : goal.returns-in_err-add
returns-in_err-add c = record {
  many = IfOk-from_err c.from_residual.result _ c.from_residual.ensures.0;
  each = IfOk-from_err c.from_residual.result _ c.from_residual.ensures.0;
}

pub constructors-init : goal.constructors-init
constructors-init c = record { many = refl; done = λ n low. absurd (omega (arith, low)); left = λ n low. refl }

pub returns : goal.returns
returns c = record {
  many = c.constructors.invariant.many;
  each = λ n low. c.constructors.invariant.done n (omega (arith, low, c.constructors-test.false, c.len-constructor-end.ensures, c.args.all.now.ok.0)) low;
}
