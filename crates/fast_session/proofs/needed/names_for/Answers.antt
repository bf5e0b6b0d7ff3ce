use Rattle.std.proofs.Common.{◌≡◌, ◌-◌, [], ◌∷◌, suc, take, drop, length, refl, ap, subst, arith}
use Rattle.std.proofs.lemmas.List.{length-map, length-take-le}
use Rattle.fast_syntax.specs.Plain.{plain_item}
use Rattle.model_checks.proofs.SoundWhole.{sound}
use Rattle.fast_build.specs.Items.{items_of}
use Rattle.fast_build.specs.Reached.{IsGrown}
use Rattle.fast_session.proofs.Following.{AreSoFar, none_yet, one_followed, all_needed}
use Rattle.fast_eval.proofs.Labels.{splits_next}
use Rattle.fast_session.proofs.Building.{form}
use Rattle.fast_session.proofs.Stepping.{item_there}
use Rattle.fast_session.proofs.needed.names_for.Goals as goal

pub items-init : goal.items-init
items-init c =
    let items = items_of c.args.checked.now in
    let whole = sound items c.args.checked.now.well_formed in
    let many = length-map c.args.checked.now.program.items.items plain_item in
    let slice = ap length c.as_slice-items.ensures.value in
    let top = ap (λ p. length p.items.items) c.program.ensures in
    record {
      low = omega arith;
      so_far = none_yet items whole c.args.name.now (length c.as_slice-items.result.now) c.add_name.new.names.keys (omega (arith, many, slice, top))
          (subst (λ ks. IsGrown ks c.add_name.new.names.keys (c.args.name.now ∷ [])) c.new-names.ensures.empty c.in_ok-add_name.ensures);
    }

pub follow-requires : goal.follow-requires
follow-requires c = λ d is.
    (let items = items_of c.args.checked.now in
    let n = c.items.left - 1 in
    let item = plain_item c.index-items-left.result in
    let w = item_there c.args.checked.now c.program.result.now c.as_slice-items.result.now n (length c.as_slice-items.result.now) c.index-items-left.result c.program.ensures c.as_slice-items.ensures.value (omega (arith, c.items-test.true, c.items.invariant.low)) refl c.index-items-left.is in
    form items (sound items c.args.checked.now.well_formed) item (record { before = take n items; behind = drop (suc n) items; is = splits_next items n item w.0 w.1 }) d is)

pub items-preserved : goal.items-preserved
items-preserved c =
    let items = items_of c.args.checked.now in
    let whole = sound items c.args.checked.now.well_formed in
    let n = c.items.left - 1 in
    let item = plain_item c.index-items-left.result in
    let w = item_there c.args.checked.now c.program.result.now c.as_slice-items.result.now n (length c.as_slice-items.result.now) c.index-items-left.result c.program.ensures c.as_slice-items.ensures.value (omega (arith, c.items-test.true, c.items.invariant.low)) refl c.index-items-left.is in
    let here : c.items.left ≡ suc n = omega (arith, c.items-test.true) in
    record {
      low = omega (arith, c.items.invariant.low);
      so_far = one_followed items whole c.args.name.now n item (record { before = take n items; behind = drop (suc n) items; is = splits_next items n item w.0 w.1 }) (length-take-le n items (omega (arith, w.0)))
          c.items.names.keys c.follow.new.names.keys (subst (λ k. AreSoFar items c.args.name.now k c.items.names.keys) here c.items.invariant.so_far) c.in_ok-follow.ensures;
    }

pub returns : goal.returns
returns c =
    let items = items_of c.args.checked.now in
    let none : c.items.left ≡ 0 = omega (arith, c.items-test.false) in
    all_needed items (sound items c.args.checked.now.well_formed) c.args.name.now c.items.names.keys (subst (λ k. AreSoFar items c.args.name.now k c.items.names.keys) none c.items.invariant.so_far)
