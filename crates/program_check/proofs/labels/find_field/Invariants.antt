use Rattle.program_check.proofs.FieldLookup.{Left}
use Rattle.program_check.proofs.labels.find_field.Given as goal

abbrev pub invariant-fields : goal.invariant-fields
invariant-fields l = Left l.fields l.name l.field-index l.number
