use Rattle.std.proofs.Common.{sym, ap, subst, ◌∙◌, take_all}
use Rattle.fast_syntax.specs.Plain.{plain_out}
use Rattle.fast_syntax.specs.Slices.{plain_outputs}
use Rattle.fast_syntax.proofs.Rows.{plain_made}
use Rattle.fast_build.specs.Reached.{IsGrown}
use Rattle.fast_build.specs.Called.{called_by, called_by_all}
use Rattle.fast_build.proofs.Calling.{called_more}
use Rattle.fast_build.proofs.Grown.{grown_step}
use Rattle.fast_build.proofs.called.+add_called.Goals as goal

pub parts-preserved : goal.parts-preserved
parts-preserved t c =
    grown_step (λ os. called_by_all (plain_outputs os)) (λ o. called_by (plain_out o)) called_more c.deref-part-items.result.now c.parts.part-index c.part-item.result _ _ _ c.parts-test.true c.part-item.is c.parts.invariant c.in_ok-add_called-in-Node.ensures

pub returns-after-parts : goal.returns-after-parts
returns-after-parts t c =
    let all = take_all c.parts.part-index c.deref-part-items.result.now c.parts-test.false ∙ c.deref-part-items.ensures.value in
    subst (IsGrown c.args.names.now.keys c.parts.names.keys) (ap (λ os. called_by_all (plain_outputs os)) all ∙ ap called_by (sym (plain_made c.in-Node.field-0 c.in-Node.field-1 c.in-Node.parts)) ∙ ap (λ o. called_by (plain_out o)) (sym c.in-Node.is)) c.parts.invariant
