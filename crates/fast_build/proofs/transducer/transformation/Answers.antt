use Rattle.std.proofs.Common.{◌≡◌, Some, None, sym, ap, subst, ◌∙◌}
use Rattle.std.specs.Option.{option_map}
use Rattle.fast_syntax.specs.Plain.{plain_trans}
use Rattle.model_meaning.specs.Types.{signature_of}
use Rattle.fast_build.specs.Items.{items_of}
use Rattle.fast_build.specs.Transformations.{find_trans}
use Rattle.fast_build.specs.CarriedTrans.{IsBuiltTransFor}
use Rattle.fast_build.specs.Transducer.{IsTransducerOf}
use Rattle.fast_build.proofs.OutStands.{trans_sound}
use Rattle.fast_build.proofs.NamedTrans.{is_built_trans_for}
use Rattle.fast_build.proofs.transducer.transformation.Goals as goal

pub unreachable-requires-in_default-signature : goal.unreachable-requires-in_default-signature
unreachable-requires-in_default-signature c =
    let s = trans_sound (items_of c.args.checked.now) c.args.checked.now.well_formed c.args.name.now (plain_trans c.in-Some.own.now) c.in-Some.ensures in
    let no : None ≡ Some (signature_of s.from) = c.in_default-signature.ensures ∙ ap (option_map signature_of) s.found_from in
    absurd (cc)

pub unreachable-requires-in_default-signature-2 : goal.unreachable-requires-in_default-signature-2
unreachable-requires-in_default-signature-2 c =
    let s = trans_sound (items_of c.args.checked.now) c.args.checked.now.well_formed c.args.name.now (plain_trans c.in-Some.own.now) c.in-Some.ensures in
    let no : None ≡ Some (signature_of s.into) = c.in_default-signature-2.ensures ∙ ap (option_map signature_of) s.found_into in
    absurd (cc)

pub returns-clause-carried : goal.returns-clause-carried
returns-clause-carried c = λ n from into same goes.
    let items = items_of c.args.checked.now in
    let t = plain_trans c.in-Some.own.now in
    subst (IsBuiltTransFor items n from into c.in_ok-built.built.names.keys c.in_ok-built.built.trans.sttr) (sym c.in_ok-built.ensures.start)
    (is_built_trans_for items c.args.checked.now.well_formed n t (subst (λ text. find_trans items text ≡ Some t) (sym same) c.in-Some.ensures) from into goes c.in_ok-built.built.names.keys c.in_ok-built.built.trans.sttr
    (subst (λ text. IsTransducerOf items text c.in_ok-built.built.names.keys c.in_ok-built.built.trans.sttr) (sym same) c.in_ok-built.ensures.transducer))
