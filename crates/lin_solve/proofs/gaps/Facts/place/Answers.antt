use Rattle.std.proofs.Common.{◌<◌, ap, sym, ◌∙◌, subst, get_or, length}
use Rattle.model_form.specs.Form.{value}
use Rattle.model_form.proofs.Equals.{same_value}
use Rattle.lin_solve.proofs.Gapped.{value_at}
use Rattle.lin_solve.proofs.gaps.Facts.place.Goals as goal

pub returns-in-Some : goal.returns-in-Some
returns-in-Some c = λ us.
    let gs = c.args.self.now.forms.items in
    let h = c.in-Some.ensures {u = tt} in
    let low : c.in-Some.place < length gs = subst (λ xs. c.in-Some.place < length xs) c.deref.ensures.value h.0 in
    let here = get_or c.deref.result.now c.in-Some.place c.args.form in
    (value_at gs c.in-Some.place c.args.form us low ∙ ap (λ xs. value (get_or xs c.in-Some.place c.args.form) us) (sym c.deref.ensures.value) ∙ same_value here c.args.form us (h.1 c.args.form), low, λ so. so)
