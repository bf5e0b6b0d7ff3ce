use Rattle.std.proofs.Common.{◌≡◌, [], ◌∷◌, ◌++◌, false, ap, ◌∙◌}
use Rattle.std.proofs.Common.{rules, to_z, of_z}
use Rattle.std.specs.Prelude.{FitsSigned, pos}
use Rattle.std.specs.Int.{w128}
use Rattle.std.proofs.lemmas.Int.{to_z-of_z}
use Rattle.model_form.specs.Form.{value}
use Rattle.model_form.specs.Sums.{number_form, product_form}
use Rattle.lin_form.specs.declared.sum.Signed.{Signed}
use Rattle.lin_solve.proofs.Branched.{more_value, moved_value, ok_weaker}
use Rattle.lin_solve.proofs.branches.moved.Goals as goal

pub returns : goal.returns
returns c =
    let f = c.in_ok-scaled.scaled in
    let g = c.in_ok-own.own in
    let one : Signed = record { minus = false; form = f } in
    let two : Signed = record { minus = false; form = g } in
    let first = (c.in_ok-push.ensures {u = tt}).items in
    let second = (c.in_ok-push-2.ensures {u = tt}).items in
    let parts : c.deref.result.now ≡ one ∷ two ∷ [] = c.deref.ensures.value ∙ second ∙ (λ i. first i ++ two ∷ []) ∙ (λ i. (c.new-parts.ensures.items i ++ one ∷ []) ++ two ∷ []) in
    let big : FitsSigned w128 c.from.result = search rules in
    let far : FitsSigned w128 c.from-2.result = search rules in
    let times : to_z w128 (of_z w128 c.from.result) ≡ pos c.args.split.times = to_z-of_z w128 c.from.result big ∙ c.from.ensures in
    let number : to_z w128 (of_z w128 c.from-2.result) ≡ pos c.args.number = to_z-of_z w128 c.from-2.result far ∙ c.from-2.ensures in
    let scaled = (c.in_ok-scaled.ensures {u = tt}).form ∙ (λ i. product_form (times i) (c.in_ok-field.ensures {u = tt} i)) in
    ok_weaker c.of_sum.result _ _ _ (λ s e vs. ap (λ h. value h vs) e ∙ more_value f g vs c.deref.result.now parts c.constant.ensures.form c.constant-2.ensures.form ∙ moved_value c.args.split.times c.args.split.field c.args.number f g vs scaled (c.in_ok-own.ensures {u = tt} ∙ ap number_form number)) c.of_sum.ensures.form
