use Rattle.std.proofs.Common.{sym, subst}
use Rattle.std.proofs.lemmas.Result.{IfOk-weaker}
use Rattle.model_form.specs.Meaning.{values_of}
use Rattle.lin_solve.specs.Said.{AreSo}
use Rattle.lin_solve.proofs.gaps.is_clear_clash.Goals as goal

pub returns : goal.returns
returns c =
    IfOk-weaker c.is_clash.result _ _ (λ clash none yes us holds. none yes (values_of c.in_ok-facts.facts.forms.items us) (subst (λ fs. AreSo fs (values_of c.in_ok-facts.facts.forms.items us)) (sym c.deref.ensures.value) (c.in_ok-facts.ensures {u = tt} us holds))) c.is_clash.ensures
