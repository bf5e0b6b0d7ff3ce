use Rattle.std.proofs.Common.{◌≡◌, ◌++◌, [], ◌∷◌, take, take_all, length, sym, ap, subst, ◌∙◌, arith}
use Rattle.std.specs.Prelude.{is_some}
use Rattle.std.proofs.lemmas.List.{length-map}
use Rattle.fast_syntax.specs.declared.items.Program.{Program}
use Rattle.fast_syntax.specs.View.{plain_type}
use Rattle.fast_syntax.specs.Plain.{plain_item, plain_body}
use Rattle.model_checks.proofs.SoundWhole.{sound}
use Rattle.fast_build.specs.Items.{items_of}
use Rattle.fast_eval.proofs.Labels.{HaveLabels, item_passed, no_type, stands_next, done_next, passed_by, passed_with, all_passed}
use Rattle.fast_eval.proofs.built.labels_of_types.Goals as goal
use Rattle.fast_eval.proofs.built.labels_of_types.Goals.{in-Sorts+in_ok-add_labels, in_default}

pub add_labels-requires : goal.add_labels-requires
add_labels-requires c =
    let items = items_of c.args.checked.now in
    let whole = c.deref-item-items.ensures.value ∙ ap (λ (p : Program). p.items.items) c.program.ensures in
    let w = item_passed c.args.checked.now c.deref-item-items.result.now c.items.item-index c.item-item.result whole c.items-test.true c.item-item.is in
    let item = plain_item c.item-item.result in
    let found = (sound items c.args.checked.now.well_formed).found_type item (plain_type c.in-Sorts.own) (stands_next items c.items.item-index item w.0 w.1) (ap plain_body c.in-Sorts.is) in
    record { declared = ap is_some found }

pub items-preserved : goal.items-preserved
items-preserved c =
    let items = items_of c.args.checked.now in
    let i = c.items.item-index in
    let whole = c.deref-item-items.ensures.value ∙ ap (λ (p : Program). p.items.items) c.program.ensures in
    let w = item_passed c.args.checked.now c.deref-item-items.result.now i c.item-item.result whole c.items-test.true c.item-item.is in
    let item = plain_item c.item-item.result in
    let done = take i items in
    subst (λ passed. HaveLabels items passed c.match-item.labels) (sym (done_next items i item w.0 w.1))
    (elim c.match-item.branch [
      | in-Sorts+in_ok-add_labels v ↦
          (let found = (sound items c.args.checked.now.well_formed).found_type item (plain_type v.in-Sorts.own) (stands_next items i item w.0 w.1) (ap plain_body v.in-Sorts.is) in
          subst (HaveLabels items (done ++ item ∷ [])) (sym v.labels-is)
          (passed_with items done item (plain_type v.in-Sorts.own) c.items.labels v.add_labels.new.labels (ap plain_body v.in-Sorts.is) found (v.in_ok-add_labels.ensures {u = tt}).added c.items.invariant))
      | in_default v ↦ subst (HaveLabels items (done ++ item ∷ [])) (sym v.labels-is) (passed_by items done item c.items.labels (no_type c.item-item.result.body v.in_default.not-Sorts) c.items.invariant)
    ])

pub returns : goal.returns
returns c =
    let items = items_of c.args.checked.now in
    let whole = c.deref-item-items.ensures.value ∙ ap (λ (p : Program). p.items.items) c.program.ensures in
    let xs = c.args.checked.now.program.items.items in
    let past : length items ≡ length c.deref-item-items.result.now = length-map xs plain_item ∙ ap (λ ys. length ys) (sym whole) in
    all_passed items c.items.labels (subst (λ passed. HaveLabels items passed c.items.labels) (take_all c.items.item-index items (omega (arith, past, c.items-test.false))) c.items.invariant)
