use Rattle.std.proofs.Common.{sym, ◌∙◌}
use Rattle.lin_solve.proofs.Gapped.{literal_here}
use Rattle.lin_solve.proofs.Seeking.{pushed_hold}
use Rattle.lin_solve.proofs.puts.simpler_each.Goals as goal

pub loop-literal-preserved : goal.loop-literal-preserved
loop-literal-preserved c = λ vs h.
    let made = c.in_ok-simpler_literal.ensures {u = tt} in
    let y = c.literal-item.result in
    let own = literal_here c.args.literals.now c.loop-literal.literal-index y vs c.literal-item.is c.loop-literal-test.true h in
    pushed_hold c.loop-literal.out.items c.push.new.self.items c.in_ok-simpler_literal.field-0 vs (c.in_ok-push.ensures {u = tt}).items (made.1 vs ∙ own ∙ sym made.0) (c.loop-literal.invariant vs h)

pub returns : goal.returns
returns c = λ vs eight h. c.loop-literal.invariant vs h
