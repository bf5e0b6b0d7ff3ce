use Rattle.std.proofs.Common.{map, ap, ◌∙◌, arith}
use Rattle.std.proofs.lemmas.List.{take_all}
use Rattle.sttr_core.specs.Terms.{plain_term}
use Rattle.sttr_apply.specs.Calls.{calls, calls_of}
use Rattle.sttr_apply.proofs.Used.{sum_mapped_more, calls_of_node}
use Rattle.sttr_apply.proofs.calls.+add_calls.Goals as goal

pub parts-preserved : goal.parts-preserved
parts-preserved g t c = record {
  used = λ q. omega (arith, c.in_ok-add_calls-in-Node.ensures.used q, c.parts.invariant.used q, sum_mapped_more plain_term (calls q c.args.child) c.deref-part-items.result.now c.parts.part-index c.part-item.result c.parts-test.true c.part-item.is);
  some = λ h. c.in_ok-add_calls-in-Node.ensures.some (c.parts.invariant.some h);
}

pub returns-after-parts-clause-used : goal.returns-after-parts-clause-used
returns-after-parts-clause-used g t c = λ q.
    let all = ap (λ xs. calls_of q c.args.child (map plain_term xs)) (take_all c.parts.part-index c.deref-part-items.result.now c.parts-test.false ∙ c.deref-part-items.ensures.value) in
    omega (arith, c.parts.invariant.used q, all, calls_of_node q c.args.child c.args.term.now c.in-Node.field-0 c.in-Node.field-1 c.in-Node.parts c.in-Node.is)
