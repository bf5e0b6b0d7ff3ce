use Rattle.std.proofs.Common.{◌≡◌, ◌∙◌, sym, subst, ap, length, arith, ◌<◌}
use Rattle.std.proofs.Math.ListN.{set, length-set}
use Rattle.model_chain.specs.Literals.{HoldsAll}
use Rattle.model_form.specs.Meaning.{values_of}
use Rattle.std.specs.Option.{MatchOption}
use Rattle.lin_solve.specs.Plain.{plain_literals}
use Rattle.lin_solve.specs.Branches.{ArePut, NeverPut}
use Rattle.lin_solve.proofs.Branched.{back}
use Rattle.lin_solve.proofs.branches.Branch.push_part.Goals as goal

pub returns-clause-part : goal.returns-clause-part
returns-clause-part c = λ _ us q eight h is.
    let k = c.args.split.field in
    let vs = set us k q in
    let same : length vs ≡ 8 = length-set us k q ∙ eight in
    let low : k < length us = (let l = c.requires in omega arith) in
    let made = c.in_ok-forms.ensures {u = tt} in
    let e : values_of c.deref-2.result.now vs ≡ us = ap (λ gs. values_of gs vs) c.deref-2.ensures.value ∙ made.forms vs same ∙ back us k c.args.split.times c.args.number q low is in
    let told = subst (λ o. MatchOption o (NeverPut c.deref.result.now c.deref-2.result.now) (λ r. ArePut c.deref.result.now c.deref-2.result.now r.items)) c.in-Some-2.is (c.in_ok-put.ensures {u = tt}) in
    (c.in_ok-push_branch.ensures {u = tt}).held vs same (told vs (subst (HoldsAll (plain_literals c.deref.result.now)) (sym e) (subst (λ ls. HoldsAll (plain_literals ls) us) (sym c.deref.ensures.value) h)))

pub returns-in_default-2-clause-part : goal.returns-in_default-2-clause-part
returns-in_default-2-clause-part c = λ _ us q eight h is.
    let k = c.args.split.field in
    let vs = set us k q in
    let same : length vs ≡ 8 = length-set us k q ∙ eight in
    let low : k < length us = (let l = c.requires in omega arith) in
    let made = c.in_ok-forms.ensures {u = tt} in
    let e : values_of c.deref-2.result.now vs ≡ us = ap (λ gs. values_of gs vs) c.deref-2.ensures.value ∙ made.forms vs same ∙ back us k c.args.split.times c.args.number q low is in
    let told = subst (λ o. MatchOption o (NeverPut c.deref.result.now c.deref-2.result.now) (λ r. ArePut c.deref.result.now c.deref-2.result.now r.items)) c.in_default-2.is (c.in_ok-put.ensures {u = tt}) in
    absurd (told vs same (subst (HoldsAll (plain_literals c.deref.result.now)) (sym e) (subst (λ ls. HoldsAll (plain_literals ls) us) (sym c.deref.ensures.value) h)))
