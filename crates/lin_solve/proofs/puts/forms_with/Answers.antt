use Rattle.std.proofs.Common.{sym, ◌∙◌, subst, arith}
use Rattle.std.proofs.Math.ListN.{set, length-set}
use Rattle.std.proofs.lemmas.List.{take_all}
use Rattle.model_form.specs.Form.{value}
use Rattle.model_form.specs.Meaning.{AreFormsLow}
use Rattle.lin_solve.proofs.Branched.{low_form, low_push, one_more}
use Rattle.lin_solve.proofs.puts.forms_with.Goals as goal

pub loop-field-preserved : goal.loop-field-preserved
loop-field-preserved c =
    let items = (c.in_ok-push.ensures {u = tt}).items in
    let old = c.loop-field.forms.items in
    let x = c.in_ok-form.form in
    record {
      forms = λ vs eight.
          one_more old c.push.new.self.items x vs (set vs c.args.own (value c.args.form.now vs)) c.loop-field.field items (let l = c.loop-field-test.true in let e = length-set vs c.args.own (value c.args.form.now vs) in omega arith)
          (c.in_ok-form.ensures {u = tt} vs eight) (c.loop-field.invariant.forms vs eight);
      low = subst AreFormsLow (sym items) (low_push old x c.loop-field.invariant.low (low_form x c.constant.ensures.form));
    }

pub returns-clause-forms : goal.returns-clause-forms
returns-clause-forms c = λ vs eight.
    let l = c.loop-field-test.false in
    let n = c.loop-field.auto.field-end in
    let target = set vs c.args.own (value c.args.form.now vs) in
    let e = length-set vs c.args.own (value c.args.form.now vs) in
    c.loop-field.invariant.forms vs eight ∙ take_all c.loop-field.field target (omega arith)
