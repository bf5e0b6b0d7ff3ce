use Rattle.std.proofs.Common.{◌<◌, ◌∙◌, length, get_or, ap, subst, arith, refl}
use Rattle.std.proofs.lemmas.List.{length-set}
use Rattle.model_sta.proofs.Reached.{same_default}
use Rattle.sta_classes.specs.Splits.{IsNextSplit, IsNextOf}
use Rattle.sta_classes.proofs.Adds.{next_more, left_more}
use Rattle.sta_classes.proofs.splits.add_to_splits.Goals as goal

pub constructors-init : goal.constructors-init
constructors-init g c = record { many = refl; done = λ n s s' low. absurd (omega (arith, low)); left = λ n s low. refl }

pub constructors-preserved : goal.constructors-preserved
constructors-preserved g c =
    let low : c.constructors.constructor < length c.constructors.splits.items = omega (arith, c.constructors-test.true, c.len-constructor-end.ensures, c.args.splits.now.ok.0, c.constructors.invariant.many) in
    record {
      many = length-set c.constructors.splits.items c.constructors.constructor c.add.new.self ∙ c.constructors.invariant.many;
      done = next_more (IsNextOf c.args.ranks.now c.args.own.now c.args.row.now) c.args.splits.now.items c.constructors.splits.items c.constructors.constructor c.index_mut.result.now c.add.new.self low c.index_mut.ensures.value
          (λ R of. subst (λ l. IsNextSplit l (get_or c.args.ranks.now c.constructors.constructor 0) c.args.row.now c.index_mut.result.now c.add.new.self) (c.deref.ensures.value ∙ ap (λ z. z.list.items) (same_default c.args.own.now c.constructors.constructor c.index-own-constructor.result R (omega (arith, low, c.constructors.invariant.many, c.requires.own, c.requires.many)) ∙ of)) c.in_ok-add.ensures)
          c.constructors.invariant.done c.constructors.invariant.left;
      left = left_more (IsNextOf c.args.ranks.now c.args.own.now c.args.row.now) c.args.splits.now.items c.constructors.splits.items c.constructors.constructor c.index_mut.result.now c.add.new.self c.constructors.invariant.left;
    }

pub returns : goal.returns
returns g c = record {
  many = c.constructors.invariant.many;
  each = λ n s s' low at at'. c.constructors.invariant.done n s s' (omega (arith, low, c.constructors-test.false, c.len-constructor-end.ensures, c.args.splits.now.ok.0)) at at';
}

pub bounds-own-constructor : goal.bounds-own-constructor
bounds-own-constructor g c = omega (arith, c.constructors-test.true, c.len-constructor-end.ensures, c.args.splits.now.ok.0, c.requires.many, c.requires.own)

pub bounds-ranks-constructor : goal.bounds-ranks-constructor
bounds-ranks-constructor g c = omega (arith, c.constructors-test.true, c.len-constructor-end.ensures, c.args.splits.now.ok.0, c.requires.many)

pub index_mut-requires : goal.index_mut-requires
index_mut-requires g c = omega (arith, c.constructors-test.true, c.len-constructor-end.ensures, c.args.splits.now.ok.0, c.constructors.invariant.many, c.constructors.splits.ok.0)
