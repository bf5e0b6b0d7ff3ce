use Rattle.std.proofs.Common.{sym, ◌∙◌, map, arith}
use Rattle.std.proofs.lemmas.List.{length-map}
use Rattle.model_tree.specs.Signature.{wholes}
use Rattle.model_guard.proofs.Values.{number_few}
use Rattle.fast_tree.specs.Signatures.{plain_field}
use Rattle.record_label.proofs.forms.field.Goals as goal

pub field-requires : goal.field-requires
field-requires c =
    let fields = map plain_field c.args.signature.now.fields.items in
    let low = number_few fields wholes c.args.name.now (sym c.has_field.ensures ∙ c.if-not-has_field.false) in
    omega (arith, low, c.number_of.ensures, c.requires, length-map c.args.signature.now.fields.items plain_field)
