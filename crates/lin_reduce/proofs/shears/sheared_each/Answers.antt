use Rattle.std.proofs.Common.{set}
use Rattle.lin_reduce.proofs.Cutting.{one_less, one_more}
use Rattle.lin_reduce.proofs.shears.sheared_each.Goals as goal

pub loop-condition-preserved : goal.loop-condition-preserved
loop-condition-preserved c = λ vs w part all.
    let parts = one_less vs c.loop-condition.yielded c.in-Some.condition all in
    one_more (set vs c.args.shear.of w) c.loop-condition.out.items _ c.in_ok-sheared.field-0 (c.in_ok-push.ensures {u = tt}).items (c.loop-condition.invariant vs w part parts.0) (c.in_ok-sheared.ensures {u = tt} vs w part parts.1)
