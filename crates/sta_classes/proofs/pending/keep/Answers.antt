use Rattle.std.proofs.Common.{◌≡◌, ◌∙◌, ◌++◌, ◌∷◌, [], Some, refl, rules}
use Rattle.std.proofs.lemmas.Result.{IfOk-from_err, on_ok_weaker}
use Rattle.sta_classes.specs.Pending.{kept_at}
use Rattle.sta_classes.proofs.Keeping.{value_added}
use Rattle.sta_classes.proofs.pending.keep.Goals as goal

pub returns-then-number-len : goal.returns-then-number-len
returns-then-number-len g c =
    let behind : c.args.best.now.items ++ Some c.in_ok-made.field-0 ∷ [] ≡ kept_at c.args.best.now.items c.args.number c.in_ok-made.field-0 = search rules in
    on_ok_weaker c.added.result (λ h. (c.in_ok-made.field-0, c.in_ok-made.was, value_added (Some c.in_ok-made.field-0) _ c.args.best.now.items c.added.new.list.items refl h ∙ behind)) c.added.ensures

pub returns : goal.returns
returns g c = (c.in_ok-made.field-0, c.in_ok-made.was, search rules)

pub returns-in_err-made : goal.returns-in_err-made
returns-in_err-made g c = IfOk-from_err c.from_residual.result _ c.from_residual.ensures.0
