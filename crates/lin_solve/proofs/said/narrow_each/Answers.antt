use Rattle.std.proofs.Common.{get_or}
use Rattle.std.specs.Prelude.{pos, None}
use Rattle.lin_solve.specs.declared.said.Fact.{Fact}
use Rattle.lin_solve.specs.declared.said.Said.TheVariants.{From}
use Rattle.lin_solve.specs.declared.said.Reach.{Reach}
use Rattle.lin_solve.proofs.Saying.{within_set}
use Rattle.lin_solve.proofs.said.narrow_each.Goals as goal

pub returns-then-is_empty : goal.returns-then-is_empty
returns-then-is_empty c = λ vs so within.
    let d : Fact = record { place = 0; said = From (pos 0) } in
    let f = get_or c.args.facts.now c.loop-fact.fact-index d in
    let none : Reach = record { low = None; high = None } in
    c.is_empty.ensures c.if-is_empty.true (get_or vs f.place (pos 0))
    (c.narrowed-new.ensures (get_or vs f.place (pos 0)) (c.loop-fact.invariant vs so within f.place none c.if-fact-reaches.false) (so c.loop-fact.fact-index d c.loop-fact-test.true).1)

pub loop-fact-preserved : goal.loop-fact-preserved
loop-fact-preserved c = λ vs so within.
    let d : Fact = record { place = 0; said = From (pos 0) } in
    let f = get_or c.args.facts.now c.loop-fact.fact-index d in
    let none : Reach = record { low = None; high = None } in
    let all = c.loop-fact.invariant vs so within in
    within_set c.loop-fact.reaches vs f.place c.narrowed-new.result all
    (c.narrowed-new.ensures (get_or vs f.place (pos 0)) (all f.place none c.if-fact-reaches.false) (so c.loop-fact.fact-index d c.loop-fact-test.true).1)
