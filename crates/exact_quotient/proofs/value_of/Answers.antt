use Rattle.std.proofs.Common.{sym, ◌∙◌, arith, subst, to_z, of_z, rules, get_or, suc, add-one}
use Rattle.std.specs.Prelude.{pos, ◌+ℤ◌, ◌*ℤ◌, FitsSigned}
use Rattle.std.specs.Int.{w64, w128}
use Rattle.std.proofs.lemmas.Int.{ints, to_z-of_z}
use Rattle.math_cooper.specs.System.{dot}
use Rattle.exact_quotient.specs.Limbs.{IsSmall}
use Rattle.exact_quotient.proofs.Steps.{dot_step, all_taken, from_64}
use Rattle.exact_quotient.proofs.value_of.Goals as goal

pub loop-i-init : goal.loop-i-init
unfolding dot
loop-i-init c =
    let e = c.plus-sum.ensures in
    record { value = e.value ∙ omega (arith, ints); small = e.small 0 ((omega (arith, ints), omega (arith, ints)), (omega (arith, ints), omega (arith, ints)), (omega (arith, ints), omega (arith, ints))) }

pub loop-i-preserved : goal.loop-i-preserved
loop-i-preserved c =
    let i = c.loop-i.i in
    let a = get_or c.args.coefficients.now i (pos 0) in
    let b = get_or c.args.values.now i (pos 0) in
    let fa : FitsSigned w128 a = search rules in
    let fb : FitsSigned w64 b = search rules in
    record {
      value = c.plus-sum-in-loop-i.ensures.value ∙ (λ j. c.loop-i.invariant.value j +ℤ (to_z-of_z w128 a fa j *ℤ from_64 b fb j))
          ∙ dot_step c.args.coefficients.now c.args.values.now i (to_z w128 (of_z w128 c.args.constant)) c.loop-i-test.true (omega (arith, c.requires.same, c.loop-i-test.true));
      small = subst (λ n. IsSmall (suc n) c.plus-sum-in-loop-i.result) (sym (add-one i)) (c.plus-sum-in-loop-i.ensures.small (suc i) c.loop-i.invariant.small);
    }

pub returns-clause-value : goal.returns-clause-value
returns-clause-value c =
    let f = c.ranges.constant in
    c.loop-i.invariant.value ∙ (λ k. dot (all_taken c.args.coefficients.now c.loop-i.i c.loop-i-test.false k) (all_taken c.args.values.now c.loop-i.i (omega (arith, c.requires.same, c.loop-i-test.false)) k) +ℤ to_z-of_z w128 c.args.constant f k)
