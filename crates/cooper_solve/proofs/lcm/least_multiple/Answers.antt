use Rattle.std.proofs.Common.{arith, rules, take, subst, sym, get_or, to_z, ◌+◌}
use Rattle.std.specs.Prelude.{pos, ◌<ℤ◌, unsigned_abs, FitsSigned}
use Rattle.std.specs.Int.{w128}
use Rattle.std.proofs.lemmas.Int.{ints, to_z-of_z}
use Rattle.std.proofs.lemmas.List.{get_or_default}
use Rattle.cooper_solve.specs.Multiples.{IsLeastMultiple}
use Rattle.cooper_solve.proofs.Multiples.{none_least, one_more, beyond_all, left_some}
use Rattle.cooper_solve.proofs.lcm.least_multiple.Goals as goal

pub loop-number-init : goal.loop-number-init
loop-number-init c = record { some = omega (arith, ints); least = none_least c.args.numbers.now }

pub returns-in_default : goal.returns-in_default
returns-in_default c =
    let k = c.loop-number.number-index in
    let n = get_or c.args.numbers.now k (pos 0) in
    let at = get_or_default c.args.numbers.now k (pos 0) n (omega arith) in
    let fn : FitsSigned w128 n = search rules in
    let none = simp to_z-of_z at (c.in_default.ensures {u = tt}) in
    beyond_all c.args.numbers.now k (unsigned_abs (to_z w128 c.loop-number.all-bits)) n (omega arith) at c.loop-number.invariant.least none

pub loop-number-preserved : goal.loop-number-preserved
loop-number-preserved c =
    let k = c.loop-number.number-index in
    let n = get_or c.args.numbers.now k (pos 0) in
    let at = get_or_default c.args.numbers.now k (pos 0) n (omega arith) in
    let fn : FitsSigned w128 n = search rules in
    let ff : FitsSigned w128 c.in-Some.next = search rules in
    let back = to_z-of_z w128 c.in-Some.next ff in
    let l = simp to_z-of_z at (c.in-Some.ensures {u = tt}) in
    let least = one_more c.args.numbers.now k (unsigned_abs (to_z w128 c.loop-number.all-bits)) (unsigned_abs c.in-Some.next) n (omega arith) at (c.requires k (pos 0) (omega arith)) l.1 c.loop-number.invariant.least in
    record { some = subst (λ z. pos 0 <ℤ z) (sym back) (left_some c.in-Some.next l.0 least.some); least = subst (λ z. IsLeastMultiple (take (k + 1) c.args.numbers.now) (unsigned_abs z)) (sym back) least }
