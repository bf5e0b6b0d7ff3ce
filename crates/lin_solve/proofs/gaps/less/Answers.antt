use Rattle.std.proofs.Common.{◌≡◌, [], ◌∷◌, ◌++◌, true, false, ap, ◌∙◌}
use Rattle.model_form.specs.Form.{value}
use Rattle.lin_form.specs.declared.sum.Signed.{Signed}
use Rattle.lin_solve.proofs.Gapped.{less_value}
use Rattle.lin_solve.proofs.gaps.less.Goals as goal

pub returns-in-Ok : goal.returns-in-Ok
returns-in-Ok c = λ us.
    let one : Signed = record { minus = false; form = c.args.left.now } in
    let two : Signed = record { minus = true; form = c.args.right.now } in
    let first = (c.in_ok-push.ensures {u = tt}).items in
    let second = (c.in_ok-push-2.ensures {u = tt}).items in
    let parts : c.deref.result.now ≡ one ∷ two ∷ [] =
    c.deref.ensures.value ∙ second
    ∙ (λ i. first i ++ (record { minus = true; form = c.in_ok-copy-2.ensures {u = tt} i }) ∷ [])
    ∙ (λ i. (c.new-parts.ensures.items i ++ (record { minus = false; form = c.in_ok-copy.ensures {u = tt} i }) ∷ []) ++ two ∷ []) in
    ap (λ f. value f us) (c.in-Ok.ensures {u = tt}).form ∙ less_value c.args.left.now c.args.right.now us c.deref.result.now parts c.constant.ensures.form c.constant-2.ensures.form
