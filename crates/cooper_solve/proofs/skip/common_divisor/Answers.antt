use Rattle.std.proofs.Common.{sym, subst, rules, take, take_all, get_or, to_z, of_z, ◌+◌, ◌<◌, arith}
use Rattle.std.proofs.Math.IntN.{pos}
use Rattle.std.specs.Prelude.{unsigned_abs, FitsSigned, ◌<ℤ◌}
use Rattle.std.specs.Int.{w128, ◌∣◌}
use Rattle.std.specs.List.{All}
use Rattle.std.proofs.lemmas.Int.{to_z-of_z, ints}
use Rattle.std.proofs.Math.Nat.{one-dvd}
use Rattle.cooper_solve.proofs.Skipped.{common_none, common_more, signed_some}
use Rattle.cooper_solve.proofs.skip.common_divisor.Goals as goal

pub returns-in_default-clause-divides : goal.returns-in_default-clause-divides
returns-in_default-clause-divides c = one-dvd (unsigned_abs c.args.divisor)

pub returns-in_default-clause-each : goal.returns-in_default-clause-each
returns-in_default-clause-each c = λ k d l. one-dvd (unsigned_abs (get_or c.args.row.now k d))

pub loop-a-preserved : goal.loop-a-preserved
loop-a-preserved c =
    let row = c.args.row.now in
    let k = c.loop-a.a-index in
    let A = to_z w128 c.loop-a.all-bits in
    let fa : FitsSigned w128 (get_or row k (pos 0)) = search rules in
    let fn : FitsSigned w128 c.in-Some.next = search rules in
    let back = to_z-of_z w128 c.in-Some.next fn in
    let g = simp to_z-of_z at (c.in-Some.ensures {u = tt}) in
    let i = c.loop-a.invariant in
    let some : 0 < unsigned_abs A = let p = i.positive in omega (arith, ints) in
    let r = common_more row k (unsigned_abs A) (unsigned_abs (to_z w128 (of_z w128 c.args.divisor))) (unsigned_abs c.in-Some.next) (omega arith) some i.divides i.each g.1.0 g.1.1 in
    record {
      positive = subst (λ z. pos 0 <ℤ z) (sym back) (signed_some c.in-Some.next g.0 r.0);
      divides = subst (λ z. unsigned_abs z ∣ unsigned_abs (to_z w128 (of_z w128 c.args.divisor))) (sym back) r.1;
      each = subst (λ z. All (λ a. unsigned_abs z ∣ unsigned_abs a) (take (k + 1) row)) (sym back) r.2;
    }

pub loop-a-init : goal.loop-a-init
loop-a-init c = record { positive = let p = c.requires in subst (λ z. pos 0 <ℤ z) (sym (to_z-of_z w128 c.args.divisor c.ranges.divisor)) p; divides = common_none (unsigned_abs (to_z w128 (of_z w128 c.args.divisor))); each = λ k d l. absurd (omega arith) }

pub returns-clause-divides : goal.returns-clause-divides
returns-clause-divides c = subst (λ z. unsigned_abs (to_z w128 c.loop-a.all-bits) ∣ unsigned_abs z) (to_z-of_z w128 c.args.divisor c.ranges.divisor) c.loop-a.invariant.divides

pub returns-clause-each : goal.returns-clause-each
returns-clause-each c = subst (All (λ a. unsigned_abs (to_z w128 c.loop-a.all-bits) ∣ unsigned_abs a)) (take_all c.loop-a.a-index c.args.row.now (omega arith)) c.loop-a.invariant.each
