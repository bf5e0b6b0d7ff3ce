use Rattle.std.proofs.Common.{arith}
use Rattle.sttr_core.specs.Terms.{plain_term}
use Rattle.sttr_apply.specs.Calls.{calls}
use Rattle.sttr_apply.proofs.Used.{sum_mapped_more}
use Rattle.sttr_apply.proofs.calls.add_calls_of.Goals as goal

pub terms-preserved : goal.terms-preserved
terms-preserved g c = record {
  used = λ q. omega (arith, c.in_ok-add_calls.ensures.used q, c.terms.invariant.used q, sum_mapped_more (λ t. plain_term t.now) (calls q c.args.child) c.args.terms.now c.terms.term-index c.term-item.result c.terms-test.true c.term-item.is);
  some = λ h. c.in_ok-add_calls.ensures.some (c.terms.invariant.some h);
}
