use Rattle.std.proofs.Common.{sym, ◌∙◌}
use Rattle.model_form.specs.Meaning.{values_of}
use Rattle.lin_solve.proofs.Gapped.{literal_here}
use Rattle.lin_solve.proofs.Seeking.{pushed_hold}
use Rattle.lin_solve.proofs.puts.put_unless_lost.Goals as goal

pub loop-literal-preserved : goal.loop-literal-preserved
loop-literal-preserved c = λ vs h.
    let made = c.in_ok-own.ensures {u = tt} in
    let y = c.literal-item.result in
    let own = literal_here c.args.literals.now c.loop-literal.literal-index y (values_of c.args.forms.now vs) c.literal-item.is c.loop-literal-test.true h in
    pushed_hold c.loop-literal.out.items c.push.new.self.items c.in_ok-own.own vs (c.in_ok-push.ensures {u = tt}).items (made.1 vs ∙ own ∙ sym made.0) (c.loop-literal.invariant vs h)

pub returns-then-is_lost : goal.returns-then-is_lost
returns-then-is_lost c = λ vs eight h.
    let made = c.in_ok-own.ensures {u = tt} in
    let own = literal_here c.args.literals.now c.loop-literal.literal-index c.literal-item.result (values_of c.args.forms.now vs) c.literal-item.is c.loop-literal-test.true h in
    c.is_lost.ensures c.if-is_lost.true vs (c.all-all.ensures vs eight) (made.1 vs ∙ own ∙ sym made.0)
