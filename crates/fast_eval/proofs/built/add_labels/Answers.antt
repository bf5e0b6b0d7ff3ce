use Rattle.std.proofs.Common.{◌≤◌, subst}
use Rattle.std.proofs.lemmas.List.{length-map}
use Rattle.model_tree.specs.Limits.{most_fields}
use Rattle.fast_tree.specs.Signatures.{plain_signature, plain_field}
use Rattle.model_checks.proofs.SoundWhole.{sound}
use Rattle.fast_build.specs.Items.{items_of}
use Rattle.fast_eval.proofs.TypeNames.{few_of}
use Rattle.fast_eval.proofs.built.add_labels.Goals as goal

pub new-requires : goal.new-requires
new-requires c =
    let items = items_of c.args.checked.now in
    subst (λ k. k ≤ most_fields) (length-map c.in-Some.signature.now.fields.items plain_field)
    (few_of items c.args.of.now (sound items c.args.checked.now.well_formed) (plain_signature c.in-Some.signature.now) c.in-Some.ensures)
