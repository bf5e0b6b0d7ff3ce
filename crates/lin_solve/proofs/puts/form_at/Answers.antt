use Rattle.std.proofs.Common.{◌<◌, ap, sym, ◌∙◌, get_or, length, arith}
use Rattle.std.proofs.Math.IntN.{pos}
use Rattle.std.proofs.Math.ListN.{set}
use Rattle.model_form.specs.Form.{value}
use Rattle.lin_solve.proofs.Cased.{set_here, set_there}
use Rattle.lin_solve.proofs.Branched.{field_value}
use Rattle.lin_solve.proofs.puts.form_at.Goals as goal

pub returns-then-field-own : goal.returns-then-field-own
returns-then-field-own c = λ vs eight.
    let k = c.args.own in
    let x = value c.args.form.now vs in
    let low : k < length vs = (let l = c.requires.own in omega arith) in
    ap (λ f. value f vs) (c.in_ok-copy.ensures {u = tt}) ∙ sym (ap (λ j. get_or (set vs k x) j (pos 0)) c.if-field-own.true ∙ set_here vs k x (pos 0) low)

pub returns : goal.returns
returns c = λ vs eight.
    let k = c.args.own in
    let x = value c.args.form.now vs in
    ap (λ f. value f vs) (c.in_ok-field.ensures {u = tt}) ∙ field_value c.args.field vs ∙ sym (set_there vs k c.args.field x (pos 0) c.if-field-own.false)
