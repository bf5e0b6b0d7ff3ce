use Rattle.std.proofs.Common.{◌≡◌, ◌+◌, ◌-◌, true, length, drop, sym, ◌∙◌, subst, arith, take_all, length-drop}
use Rattle.std.specs.List.{list_any}
use Rattle.lin_solve.specs.Kept.{is_same}
use Rattle.lin_solve.specs.contracts.compare.ComparePartialEq.TheImpl.{ghosts as compares}
use Rattle.lin_solve.proofs.Alike.{laws_of_equality}
use Rattle.lin_solve.proofs.Once.{same_there}
use Rattle.lin_solve.proofs.repeats.are_different.Goals as goal

pub returns-then-has : goal.returns-then-has
returns-then-has c =
    let l = c.index-literals-i.result in
    let ls = c.args.literals.now in
    let rest = take_all (length ls - (c.loop-i.i + 1)) (drop (c.loop-i.i + 1) ls) (omega (arith, length-drop (c.loop-i.i + 1) ls)) in
    let there = subst (λ ms. list_any (is_same compares.eq l) ms ≡ true) rest (sym c.has.ensures ∙ c.if-has.true) in
    let none = same_there compares.eq laws_of_equality ls c.loop-i.i l c.loop-i-test.true c.index-literals-i.is there c.loop-i.invariant in
    (λ e. cc, λ h. absurd (none h))
