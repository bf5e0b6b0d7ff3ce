use Rattle.std.proofs.Common.{◌≡◌, ◌≤◌, Some, None, sym, subst}
use Rattle.std.proofs.lemmas.List.{length-map}
use Rattle.model_tree.specs.Limits.{most_fields}
use Rattle.model_meaning.specs.Reached.{Reaches}
use Rattle.model_checks.proofs.SoundWhole.{sound}
use Rattle.model_names.specs.Declared.{name_of, find_type}
use Rattle.fast_tree.specs.Signatures.{plain_signature, plain_field}
use Rattle.fast_syntax.specs.Plain.{plain_trans}
use Rattle.record_label.specs.Meaning.{row_meaning}
use Rattle.sttr_single.specs.Overlap.{IsOverlap}
use Rattle.fast_build.specs.CarriedTrans.{same_maps}
use Rattle.fast_build.specs.Items.{items_of}
use Rattle.fast_eval.proofs.Keeping.{on_err}
use Rattle.fast_eval.proofs.TypeNames.{few_of}
use Rattle.fast_compose.specs.Meetings.{IsMet, StopsMeeting}
use Rattle.fast_compose.proofs.States.{type_found}
use Rattle.fast_compose.proofs.Searched.{no_type, none_met, nowhere_by, large_by, numbers_low, meeting_by, stops_by, labels_by, fits_labels}
use Rattle.fast_compose.proofs.meetings.met_by.Goals as goal

pub returns-in_default-clause-met : goal.returns-in_default-clause-met
returns-in_default-clause-met c = none_met (items_of c.args.checked.now) (sound (items_of c.args.checked.now) c.args.checked.now.well_formed) c.args.name.now c.in_default.ensures

pub unreachable-requires : goal.unreachable-requires
unreachable-requires c =
    let items = items_of c.args.checked.now in
    let (s, found) = type_found items c.args.checked.now.well_formed (name_of c.args.name.now) (plain_trans c.in-Some.own.now) c.in-Some.ensures in
    let bad : None ≡ Some s = no_type (find_type items (plain_trans c.in-Some.own.now).from.text) s c.in_default-signature.ensures found in
    cc

pub new-requires : goal.new-requires
new-requires c =
    let items = items_of c.args.checked.now in
    subst (λ k. k ≤ most_fields) (length-map c.in-Some-signature.signature.now.fields.items plain_field)
    (few_of items (plain_trans c.in-Some.own.now).from.text (sound items c.args.checked.now.well_formed) (plain_signature c.in-Some-signature.signature.now) c.in-Some-signature.ensures)

pub overlap-requires : goal.overlap-requires
overlap-requires c =
    let items = items_of c.args.checked.now in
    let t = plain_trans c.in-Some.own.now in
    let labels = labels_by items t.from.text c.in_ok-theory.theory (plain_signature c.in-Some-signature.signature.now) c.in_ok-theory.ensures c.in-Some-signature.ensures in
    record { labels = fits_labels items c.args.checked.now.well_formed c.args.name.now t c.in-Some.ensures c.in_ok-theory.theory labels c.in_ok-built.built.names.keys c.in_ok-built.built.trans c.in_ok-built.ensures.transducer c.in_ok-built.ensures.carried }

pub returns-in_err-overlap-clause-stop : goal.returns-in_err-overlap-clause-stop
returns-in_err-overlap-clause-stop c =
    let items = items_of c.args.checked.now in
    let t = plain_trans c.in-Some.own.now in
    let labels = labels_by items t.from.text c.in_ok-theory.theory (plain_signature c.in-Some-signature.signature.now) c.in_ok-theory.ensures c.in-Some-signature.ensures in
    let e = c.in_err-overlap.field-0.0 in
    on_err (StopsMeeting items c.args.name.now c.args.limit) c.from_residual-in_err-overlap.result e c.from_residual-in_err-overlap.ensures.1
    (stops_by items c.args.checked.now.well_formed c.args.name.now t c.in-Some.ensures c.in_ok-theory.theory labels c.in_ok-built.built.names.keys c.in_ok-built.built.trans c.in_ok-built.ensures.transducer c.in_ok-built.ensures.carried c.args.limit e c.in_err-overlap.ensures.stop)

pub returns-in-Plain-clause-met : goal.returns-in-Plain-clause-met
returns-in-Plain-clause-met c =
    let items = items_of c.args.checked.now in
    let t = plain_trans c.in-Some.own.now in
    let labels = labels_by items t.from.text c.in_ok-theory.theory (plain_signature c.in-Some-signature.signature.now) c.in_ok-theory.ensures c.in-Some-signature.ensures in
    let d = c.in_ok-built.built.trans in
    nowhere_by items c.args.checked.now.well_formed c.args.name.now t c.in-Some.ensures c.in_ok-theory.theory labels c.in_ok-built.built.names.keys d c.in_ok-built.ensures.transducer c.in_ok-built.ensures.carried c.args.limit
    (subst (IsOverlap same_maps (row_meaning c.in_ok-theory.theory) d.sttr c.args.limit) c.in-Plain.is c.in_ok-overlap.ensures.overlap)

pub shown-requires-clause-state : goal.shown-requires-clause-state
shown-requires-clause-state c =
    let items = items_of c.args.checked.now in
    let t = plain_trans c.in-Some.own.now in
    let labels = labels_by items t.from.text c.in_ok-theory.theory (plain_signature c.in-Some-signature.signature.now) c.in_ok-theory.ensures c.in-Some-signature.ensures in
    let d = c.in_ok-built.built.trans in
    (numbers_low items c.args.checked.now.well_formed c.args.name.now t c.in-Some.ensures c.in_ok-theory.theory labels c.in_ok-built.built.names.keys d c.in_ok-built.ensures.transducer c.in_ok-built.ensures.carried c.args.limit c.in-Meets.meeting
    (subst (IsOverlap same_maps (row_meaning c.in_ok-theory.theory) d.sttr c.args.limit) c.in-Meets.is c.in_ok-overlap.ensures.overlap)).0

pub shown-requires-clause-rules : goal.shown-requires-clause-rules
shown-requires-clause-rules c =
    let items = items_of c.args.checked.now in
    let t = plain_trans c.in-Some.own.now in
    let labels = labels_by items t.from.text c.in_ok-theory.theory (plain_signature c.in-Some-signature.signature.now) c.in_ok-theory.ensures c.in-Some-signature.ensures in
    let d = c.in_ok-built.built.trans in
    (numbers_low items c.args.checked.now.well_formed c.args.name.now t c.in-Some.ensures c.in_ok-theory.theory labels c.in_ok-built.built.names.keys d c.in_ok-built.ensures.transducer c.in_ok-built.ensures.carried c.args.limit c.in-Meets.meeting
    (subst (IsOverlap same_maps (row_meaning c.in_ok-theory.theory) d.sttr c.args.limit) c.in-Meets.is c.in_ok-overlap.ensures.overlap)).1

pub returns-in-Meets-clause-met : goal.returns-in-Meets-clause-met
returns-in-Meets-clause-met c =
    let items = items_of c.args.checked.now in
    let t = plain_trans c.in-Some.own.now in
    let labels = labels_by items t.from.text c.in_ok-theory.theory (plain_signature c.in-Some-signature.signature.now) c.in_ok-theory.ensures c.in-Some-signature.ensures in
    let d = c.in_ok-built.built.trans in
    let (a, is, same) = c.in_ok-shown-in-Meets.ensures in
    subst (IsMet items (Reaches items c.args.name.now)) (sym is)
    (meeting_by items c.args.checked.now.well_formed c.args.name.now t c.in-Some.ensures c.in_ok-theory.theory labels c.in_ok-built.built.names.keys d c.in_ok-built.ensures.transducer c.in_ok-built.ensures.carried c.args.limit c.in-Meets.meeting
    (subst (IsOverlap same_maps (row_meaning c.in_ok-theory.theory) d.sttr c.args.limit) c.in-Meets.is c.in_ok-overlap.ensures.overlap) c.requires.shallow a same)

pub returns-clause-met : goal.returns-clause-met
returns-clause-met c =
    let items = items_of c.args.checked.now in
    let t = plain_trans c.in-Some.own.now in
    let labels = labels_by items t.from.text c.in_ok-theory.theory (plain_signature c.in-Some-signature.signature.now) c.in_ok-theory.ensures c.in-Some-signature.ensures in
    let d = c.in_ok-built.built.trans in
    large_by items c.args.checked.now.well_formed c.args.name.now t c.in-Some.ensures c.in_ok-theory.theory labels c.in_ok-built.built.names.keys d c.in_ok-built.ensures.transducer c.in_ok-built.ensures.carried c.args.limit
    (subst (IsOverlap same_maps (row_meaning c.in_ok-theory.theory) d.sttr c.args.limit) c.in-TooBig.is c.in_ok-overlap.ensures.overlap)
