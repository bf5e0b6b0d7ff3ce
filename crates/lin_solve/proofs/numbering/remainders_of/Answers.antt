use Rattle.std.proofs.Common.{drop, ◌+◌, ap, sym, subst, ◌∙◌, arith}
use Rattle.model_chain.specs.Literals.{seen, seen_in}
use Rattle.lin_solve.specs.Plain.{plain_known, plain_literals, ArePositive}
use Rattle.lin_solve.proofs.Numbered.{literals_step, literals_end}
use Rattle.lin_solve.proofs.numbering.remainders_of.Goals as goal

pub loop-literal-init : goal.loop-literal-init
loop-literal-init c = record { known = ap (λ l. seen_in (plain_literals c.args.literals.now) (plain_known l)) c.new-known.ensures.items; positive = subst ArePositive (sym c.new-known.ensures.items) (λ k d l. absurd (omega arith)) }

pub loop-literal-preserved : goal.loop-literal-preserved
loop-literal-preserved c =
    let ls = c.args.literals.now in
    let i = c.loop-literal.literal-index in
    let left = c.in_ok-add_form.ensures {u = tt} in
    let right = c.in_ok-add_form-2.ensures {u = tt} in
    record {
      known = ap (seen_in (plain_literals (drop (i + 1) ls))) (right.0 ∙ ap (seen c.literal-item.result.atom.right) left.0) ∙ sym (literals_step ls i c.literal-item.result (plain_known c.loop-literal.known.items) c.loop-literal-test.true c.literal-item.is) ∙ c.loop-literal.invariant.known;
      positive = right.1 (left.1 c.loop-literal.invariant.positive);
    }

pub returns : goal.returns
returns c = (sym (literals_end c.args.literals.now c.loop-literal.literal-index (plain_known c.loop-literal.known.items) (omega arith)) ∙ c.loop-literal.invariant.known, c.loop-literal.invariant.positive)
