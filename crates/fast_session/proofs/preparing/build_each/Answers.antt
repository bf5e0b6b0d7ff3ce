use Rattle.std.proofs.Common.{◌≤◌, suc, take, drop, length, Contains, refl, sym, ap, subst, take_all, arith}
use Rattle.std.proofs.lemmas.List.{length-map}
use Rattle.fast_syntax.specs.Plain.{plain_item}
use Rattle.fast_eval.specs.Defined.{AreDefinedOf}
use Rattle.fast_session.specs.Kept.{items_in}
use Rattle.fast_session.specs.Needed.{AreComposableOf}
use Rattle.fast_eval.proofs.Labels.{splits_next, done_next}
use Rattle.fast_session.proofs.Building.{none_defined, one_defined, none_composable, one_composable, more_twice}
use Rattle.fast_session.proofs.Silent.{nothing_more}
use Rattle.fast_session.proofs.Stepping.{item_there}
use Rattle.fast_session.proofs.preparing.build_each.Goals as goal

pub items-init : goal.items-init
items-init c = record {
  more = nothing_more (items_in c.args.around.now) c.args.kept.now c.requires.built;
  composable = none_composable (items_in c.args.around.now) (Contains c.args.names.now.keys) (items_in c.args.around.now);
  defined = none_defined (Contains c.args.names.now.keys) c.args.kept.now.built (items_in c.args.around.now);
}

pub build-requires : goal.build-requires
build-requires c =
    let items = items_in c.args.around.now in
    let n = c.items.item-index in
    let item = plain_item c.item-item.result in
    let w = item_there c.args.around.now.checked.now c.program.result.now c.as_slice-items.result.now n (length c.as_slice-items.result.now) c.item-item.result c.program.ensures c.as_slice-items.ensures.value (omega (arith, c.items-test.true)) refl c.item-item.is in
    record {
      at = record { before = take n items; behind = drop (suc n) items; is = splits_next items n item w.0 w.1 };
      built = c.items.invariant.more.built;
      closed = c.requires.closed;
      defined = c.items.invariant.defined;
      shallow = c.requires.shallow;
    }

pub items-preserved : goal.items-preserved
items-preserved c =
    let items = items_in c.args.around.now in
    let n = c.items.item-index in
    let item = plain_item c.item-item.result in
    let P = Contains c.args.names.now.keys in
    let w = item_there c.args.around.now.checked.now c.program.result.now c.as_slice-items.result.now n (length c.as_slice-items.result.now) c.item-item.result c.program.ensures c.as_slice-items.ensures.value (omega (arith, c.items-test.true)) refl c.item-item.is in
    record {
      more = more_twice items c.args.kept.now c.items.kept c.build.new.kept c.items.invariant.more c.build.ensures.more;
      composable = subst (AreComposableOf items P) (sym (done_next items n item w.0 w.1)) (one_composable items P (take n items) item c.items.invariant.composable (c.in_ok-build.ensures {u = tt}).composable);
      defined = subst (AreDefinedOf P c.build.new.kept.built) (sym (done_next items n item w.0 w.1)) (one_defined P c.items.kept.built c.build.new.kept.built (take n items) item c.build.ensures.more.grown c.items.invariant.defined (c.in_ok-build.ensures {u = tt}).named);
    }

pub returns-in_err-build-clause-more : goal.returns-in_err-build-clause-more
returns-in_err-build-clause-more c = more_twice (items_in c.args.around.now) c.args.kept.now c.items.kept c.build.new.kept c.items.invariant.more c.build.ensures.more

pub returns-clause-defined : goal.returns-clause-defined
returns-clause-defined c =
    let items = items_in c.args.around.now in
    let n = c.items.item-index in
    let code = c.args.around.now.checked.now.program.items.items in
    let many = length-map code plain_item in
    let slice = ap length c.as_slice-items.ensures.value in
    let whole = ap (λ p. length p.items.items) c.program.ensures in
    let past : length items ≤ n = omega (arith, many, slice, whole, c.items-test.false) in
    subst (AreDefinedOf (Contains c.args.names.now.keys) c.items.kept.built) (take_all n items past) c.items.invariant.defined

pub returns-clause-composable : goal.returns-clause-composable
returns-clause-composable c =
    let items = items_in c.args.around.now in
    let n = c.items.item-index in
    let code = c.args.around.now.checked.now.program.items.items in
    let many = length-map code plain_item in
    let slice = ap length c.as_slice-items.ensures.value in
    let whole = ap (λ p. length p.items.items) c.program.ensures in
    let past : length items ≤ n = omega (arith, many, slice, whole, c.items-test.false) in
    subst (AreComposableOf items (Contains c.args.names.now.keys)) (take_all n items past) c.items.invariant.composable
