use Rattle.std.proofs.Common.{◌≡◌, map, length, sym, subst, ◌∙◌, arith, rules}
use Rattle.std.specs.Prelude.{FitsSigned}
use Rattle.std.specs.Int.{w128}
use Rattle.std.proofs.lemmas.Int.{to_z-of_z}
use Rattle.model_tree.specs.Label.{whole}
use Rattle.model_tree.specs.Signature.{wholes}
use Rattle.model_tree.proofs.Sorts.{own_sorts}
use Rattle.model_form.specs.Form.{value}
use Rattle.model_form.proofs.Over.{value_agree}
use Rattle.model_guard.specs.Forms.{wholes_in}
use Rattle.fast_tree.specs.Entries.{entries_of, field_of}
use Rattle.flat_label.specs.Texts.{SideFits}
use Rattle.record_label.specs.Rows.{texts_in, count_of}
use Rattle.record_label.specs.PlainMaps.{IsMadeField}
use Rattle.record_label.proofs.RowFacts.{side_fits_in}
use Rattle.record_label.proofs.applies.made_entry.Goals as goal

pub side_text-requires : goal.side_text-requires
side_text-requires c =
    subst (λ values. SideFits (length (texts_in (map field_of values))) c.in-Text.side) (sym c.values.ensures) (side_fits_in c.args.theory.now (map field_of (entries_of c.args.value.now)) c.in-Text.side (own_sorts c.args.theory.now (map field_of (entries_of c.args.value.now)) c.requires.value.0) (rw c.in-Text.is at c.requires.fits))

pub returns-in-Number : goal.returns-in-Number
returns-in-Number c =
    let fields = map field_of (entries_of c.args.value.now) in
    let n = count_of wholes c.args.theory.now in
    let few = c.numbers.ensures.few in
    let over = rw c.in-Number.is at c.requires.fits in
    let same : c.eval.result ≡ value c.in-Number.form (wholes_in fields) =
    c.eval.ensures ∙ value_agree n c.in-Number.form c.numbers.result (wholes_in fields) (λ k l. c.numbers.ensures.numbers k (omega (arith, l, few))) over in
    let fits : FitsSigned w128 c.eval.result = search rules in
    rw c.in-Number.is (subst (λ z. IsMadeField (whole z) c.made_number.result) (to_z-of_z w128 c.eval.result fits ∙ same) c.made_number.ensures)
