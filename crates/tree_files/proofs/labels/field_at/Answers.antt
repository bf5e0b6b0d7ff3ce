use Rattle.fast_tree.specs.Signatures.{plain_field}
use Rattle.tree_files.proofs.Lookup.{there_by, past_by}
use Rattle.tree_files.proofs.labels.field_at.Goals as goal

pub returns-then-number-fields : goal.returns-then-number-fields
returns-then-number-fields c = there_by plain_field c.args.fields.now c.args.number c.index-fields-number.result c.if-number-fields.true c.index-fields-number.is

pub returns-else-number-fields : goal.returns-else-number-fields
returns-else-number-fields c = past_by plain_field c.args.fields.now c.args.number c.if-number-fields.false
