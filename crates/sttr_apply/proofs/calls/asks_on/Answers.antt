use Rattle.std.proofs.Common.{map, ap, arith}
use Rattle.sttr_core.specs.Terms.{plain_term}
use Rattle.sttr_apply.specs.Calls.{calls_of}
use Rattle.sttr_apply.proofs.Used.{sum_mapped_more}
use Rattle.sttr_apply.proofs.calls.asks_on.Goals as goal

pub terms-preserved : goal.terms-preserved
terms-preserved g c = record {
  used = λ q.
      let these = ap (λ ts. calls_of q c.args.child (map (λ t. plain_term t.now) ts)) c.deref.ensures.value in
      omega (arith, c.in_ok-add_calls_of.ensures.used q, c.terms.invariant.used q, these, sum_mapped_more (λ those. map (λ t. plain_term t.now) those.items) (calls_of q c.args.child) c.args.terms.now c.terms.those-index c.those-item.result c.terms-test.true c.those-item.is);
  some = c.in_ok-add_calls_of.ensures.some c.terms.invariant.some;
}
