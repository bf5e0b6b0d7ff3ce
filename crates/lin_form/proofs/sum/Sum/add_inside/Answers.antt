use Rattle.std.proofs.lemmas.Result.{err_from_is_err_and}
use Rattle.model_form.specs.Sums.{form_of_sum}
use Rattle.model_form.specs.Ranges.{IsOutside}
use Rattle.lin_form.specs.Gathered.{plain_sum}
use Rattle.lin_form.proofs.Putting.{stops_memory}
use Rattle.lin_form.proofs.Reducing.{reduced_inside}
use Rattle.lin_form.proofs.sum.Sum.add_inside.Goals as goal

pub returns-in_err-inner-clause-sum : goal.returns-in_err-inner-clause-sum
returns-in_err-inner-clause-sum c =
    let p = err_from_is_err_and c.from_residual-in_err-inner.result c.from_residual-in_err-inner.ensures.1 in
    let sum = plain_sum c.in_ok-opened.field-0 in
    let is = (c.in_ok-opened.ensures {u = tt}).1 in
    rw (p.1, p.2) (stops_memory (IsOutside (form_of_sum sum)) c.in_err-inner.field-0.0 (reduced_inside c.args.divisor sum c.requires.some c.requires.few is) (c.in_err-inner.ensures {u = tt}).form)
