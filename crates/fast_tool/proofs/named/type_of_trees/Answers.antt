use Rattle.fast_tree.specs.Signatures.{plain_signature}
use Rattle.program_check.specs.Tells.{kind_view}
use Rattle.fast_build.specs.Items.{items_of}
use Rattle.fast_tool.specs.Commands.{kind_asked}
use Rattle.fast_tool.proofs.Lookups.{has_signature, signature_is, not_declared}
use Rattle.fast_tool.proofs.named.type_of_trees.Goals as goal

pub returns-in_default-clause-refused : goal.returns-in_default-clause-refused
returns-in_default-clause-refused c = not_declared (items_of c.args.checked.now) c.args.name.now (kind_asked c.args.question) c.in_default.ensures

pub unreachable-requires : goal.unreachable-requires
unreachable-requires c =
    has_signature (items_of c.args.checked.now) c.args.checked.now.well_formed c.args.name.now (kind_view c.in-Some.kind) c.in-Some.ensures c.args.question c.in-Some-type_asked.ensures.some.0 c.in-Some-type_asked.of.now c.in-Some-type_asked.ensures.some.1
    c.in-None.ensures

pub returns-clause-of : goal.returns-clause-of
returns-clause-of c =
    signature_is (items_of c.args.checked.now) c.args.checked.now.well_formed c.args.name.now (kind_view c.in-Some.kind) c.in-Some.ensures c.args.question c.in-Some-type_asked.ensures.some.0 c.in-Some-type_asked.of.now c.in-Some-type_asked.ensures.some.1
    (plain_signature c.in-Some-signature.signature.now) c.in-Some-signature.ensures
