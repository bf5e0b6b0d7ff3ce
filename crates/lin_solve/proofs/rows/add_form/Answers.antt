use Rattle.std.proofs.Common.{◌+◌, ◌*◌, ◌^◌, length, ap, ◌∙◌, arith}
use Rattle.model_form.specs.Sums.{sign}
use Rattle.model_chain.specs.Literals.{add_places}
use Rattle.lin_form.specs.Terms.{plain_fields, plain_remainders}
use Rattle.lin_solve.specs.Plain.{plain_known}
use Rattle.lin_solve.proofs.Filled.{within_up, few_fields, sound_places, terms_of}
use Rattle.lin_solve.proofs.rows.add_form.Goals as goal

pub add_fields-requires-clause-fields : goal.add_fields-requires-clause-fields
add_fields-requires-clause-fields c = (few_fields c.args.form.now c.fields.result.now c.fields.ensures.form c.fields.ensures.value).0

pub add_places-requires-clause-small : goal.add_places-requires-clause-small
add_places-requires-clause-small c =
    let few = (few_fields c.args.form.now c.fields.result.now c.fields.ensures.form c.fields.ensures.value).1 in
    within_up (2 ^ 105 + length c.fields.result.now * 2 ^ 31) (2 ^ 110) c.add_fields.new.row.items (omega arith) (c.add_fields.ensures.small (2 ^ 105) c.requires.small)

pub add_places-requires-clause-terms : goal.add_places-requires-clause-terms
add_places-requires-clause-terms c = sound_places c.args.form.now c.remainders.result.now c.remainders.ensures.form c.remainders.ensures.value

pub returns-clause-row : goal.returns-clause-row
returns-clause-row c =
    c.add_places.ensures.row ∙ ap (add_places (plain_known c.args.known.now) (sign c.args.minus) (plain_remainders c.remainders.result.now)) c.add_fields.ensures.row
    ∙ terms_of (plain_known c.args.known.now) (sign c.args.minus) c.args.form.now (plain_fields c.fields.result.now) (plain_remainders c.remainders.result.now) c.args.row.now.items c.fields.ensures.value c.remainders.ensures.value

pub returns-clause-small : goal.returns-clause-small
returns-clause-small c = λ b h.
    let few = (few_fields c.args.form.now c.fields.result.now c.fields.ensures.form c.fields.ensures.value).1 in
    let many = c.remainders.type_inv in
    within_up ((b + length c.fields.result.now * 2 ^ 31) + length c.remainders.result.now * 2 ^ 31) (b + 2 ^ 100) c.add_places.new.row.items (omega arith)
    (c.add_places.ensures.small (b + length c.fields.result.now * 2 ^ 31) (c.add_fields.ensures.small b h))
