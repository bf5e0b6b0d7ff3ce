use Rattle.std.proofs.Common.{◌+◌, ◌≤◌, cond, sym, ap, ◌∙◌, subst, take_all}
use Rattle.model_chain.specs.Literals.{count_sides, needs_side}
use Rattle.lin_solve.specs.Plain.{plain_literal, plain_literals}
use Rattle.lin_solve.proofs.Fronts.{step_low, count_more, front_of, front_whole}
use Rattle.lin_solve.proofs.tried.front.Goals as goal

pub loop-i-preserved : goal.loop-i-preserved
loop-i-preserved c =
    let n = c.loop-i.count in
    let l = c.index-literals-i.result in
    let i = c.loop-i.invariant in
    record {
      are = c.step_on-next.ensures ∙ ap (λ b. cond b (n + 1) n) c.needs_side.ensures ∙ ap (λ m. cond (needs_side (plain_literal l)) (m + 1) m) i.are ∙ sym (count_more c.args.literals.now c.loop-i.i l c.loop-i-test.true c.index-literals-i.is);
      few = c.if-next-sides.false;
      low = subst (λ m. m ≤ c.loop-i.i + 1) (sym c.step_on-next.ensures) (step_low c.needs_side.result n c.loop-i.i i.low);
    }

pub returns-then-next-sides : goal.returns-then-next-sides
returns-then-next-sides c = front_of c.args.literals.now c.loop-i.i c.args.sides (subst (λ m. m ≤ c.args.sides) c.loop-i.invariant.are c.loop-i.invariant.few)

pub returns : goal.returns
returns c =
    let ls = c.args.literals.now in
    front_whole ls c.args.sides (subst (λ m. m ≤ c.args.sides) (c.loop-i.invariant.are ∙ ap (λ ms. count_sides (plain_literals ms)) (take_all c.loop-i.i ls c.loop-i-test.false)) c.loop-i.invariant.few)
