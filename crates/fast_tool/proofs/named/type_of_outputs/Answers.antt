use Rattle.std.proofs.Common.{ap}
use Rattle.fast_tree.specs.Signatures.{plain_signature}
use Rattle.program_check.specs.Tells.{kind_view}
use Rattle.fast_build.specs.Items.{items_of}
use Rattle.fast_tool.proofs.Lookups.{has_output_signature, output_signature_is}
use Rattle.fast_tool.proofs.named.type_of_outputs.Goals as goal

pub unreachable-requires-in_default-signature : goal.unreachable-requires-in_default-signature
unreachable-requires-in_default-signature c =
    let kind = c.in-Some-Transformation.field-0-is in
    has_output_signature (items_of c.args.checked.now) c.args.checked.now.well_formed c.args.name.now (kind_view c.in-Some-Transformation.field-0) c.in-Some-Transformation.ensures (ap (λ k. (kind_view k).0) kind) c.in-Some-Transformation.into.now
    (ap (λ k. (kind_view k).1.1) kind) c.in_default-signature.ensures

pub returns : goal.returns
returns c =
    let kind = c.in-Some-Transformation.field-0-is in
    output_signature_is (items_of c.args.checked.now) c.args.checked.now.well_formed c.args.name.now (kind_view c.in-Some-Transformation.field-0) c.in-Some-Transformation.ensures (ap (λ k. (kind_view k).0) kind) c.in-Some-Transformation.into.now
    (ap (λ k. (kind_view k).1.1) kind) (plain_signature c.in-Some.signature.now) c.in-Some.ensures
