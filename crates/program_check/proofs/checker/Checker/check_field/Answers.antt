use Rattle.program_check.proofs.FieldKnown.{known_field, field_there}
use Rattle.program_check.proofs.checker.Checker.check_field.Goals as goal

pub returns-clause-noted : goal.returns-clause-noted
returns-clause-noted c h = field_there c.args.scope.now c.in-Some.fields c.args.name.now c.args.place c.in-Some-find_field.sort c.in-Some-find_field.number _ _ c.in-Some.is c.in-Some-find_field.ensures (c.form_of_field-form.ensures.noted h)

pub returns-clause-known : goal.returns-clause-known
returns-clause-known c h =
    known_field c.args.scope.now c.in-Some.fields c.args.name.now c.args.place c.in-Some-find_field.sort c.in-Some-find_field.number c.form_of_field-form.result
    c.in-Some.is c.in-Some-find_field.ensures (c.form_of_field-form.ensures.form h)
