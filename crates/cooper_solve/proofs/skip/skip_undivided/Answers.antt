use Rattle.std.proofs.Common.{◌≡◌, ⊎_elim, ap, rules, of_z, arith}
use Rattle.std.proofs.Math.IntN.{pos}
use Rattle.std.specs.Prelude.{FitsSigned, ◌<ℤ◌}
use Rattle.std.specs.Int.{w128}
use Rattle.std.proofs.lemmas.Int.{to_z-of_z, ints}
use Rattle.cooper_solve.proofs.Skipped.{skip_flat, skip_up, skip_down, below_of}
use Rattle.cooper_solve.proofs.skip.skip_undivided.Goals as goal

pub returns-then-slope-eq0-clause-none : goal.returns-then-slope-eq0-clause-none
returns-then-slope-eq0-clause-none c =
    let fv = c.ranges.value in
    let fd = c.ranges.divisor in
    let fr : FitsSigned w128 c.rem-rest.result = search rules in
    let exact = simp to_z-of_z at c.rem-rest.ensures.exact in
    let high = simp to_z-of_z at c.rem-rest.ensures.high in
    let not : c.rem-rest.result ≡ pos 0 → ⊥ = λ e. c.if-rest-eq0.false (ap (of_z w128) e) in
    let zero : c.args.slope ≡ pos 0 = omega (arith, ints) in
    λ s l. skip_flat c.args.value c.args.divisor c.args.slope c.rem-rest.result c.requires.unit c.requires.divisor exact c.rem-rest.ensures.low high not zero s

pub returns-then-slope-gt0-clause-natural : goal.returns-then-slope-gt0-clause-natural
returns-then-slope-gt0-clause-natural c =
    let fr : FitsSigned w128 c.rem-rest.result = search rules in
    let fl : FitsSigned w128 c.lesser.result = search rules in
    let low = c.rem-rest.ensures.low in
    let high = c.rem-rest.ensures.high in
    let left = c.requires.left in
    ⊎_elim (λ e. omega (arith, ints, e, low, high)) (λ e. omega (arith, ints, e, left)) c.lesser.ensures.which

pub returns-then-slope-gt0-clause-none : goal.returns-then-slope-gt0-clause-none
returns-then-slope-gt0-clause-none c =
    let fv = c.ranges.value in
    let fd = c.ranges.divisor in
    let fr : FitsSigned w128 c.rem-rest.result = search rules in
    let exact = simp to_z-of_z at c.rem-rest.ensures.exact in
    let high = simp to_z-of_z at c.rem-rest.ensures.high in
    let not : c.rem-rest.result ≡ pos 0 → ⊥ = λ e. c.if-rest-eq0.false (ap (of_z w128) e) in
    let fl : FitsSigned w128 c.lesser.result = search rules in
    let first = c.lesser.ensures.first in
    let low = c.rem-rest.ensures.low in
    let up : pos 0 <ℤ c.args.slope = omega (arith, ints, c.if-slope-gt0.true) in
    λ s l. skip_up c.args.value c.args.divisor c.args.slope c.rem-rest.result c.requires.unit c.requires.divisor exact c.rem-rest.ensures.low high not up s (omega (arith, ints, first, l, low, high))

pub returns-clause-natural : goal.returns-clause-natural
returns-clause-natural c =
    let fr : FitsSigned w128 c.rem-rest.result = search rules in
    let fl : FitsSigned w128 c.lesser-2.result = search rules in
    let low = c.rem-rest.ensures.low in
    let left = c.requires.left in
    ⊎_elim (λ e. omega (arith, ints, e, low)) (λ e. omega (arith, ints, e, left)) c.lesser-2.ensures.which

pub returns-clause-none : goal.returns-clause-none
returns-clause-none c =
    let fv = c.ranges.value in
    let fd = c.ranges.divisor in
    let fr : FitsSigned w128 c.rem-rest.result = search rules in
    let exact = simp to_z-of_z at c.rem-rest.ensures.exact in
    let high = simp to_z-of_z at c.rem-rest.ensures.high in
    let not : c.rem-rest.result ≡ pos 0 → ⊥ = λ e. c.if-rest-eq0.false (ap (of_z w128) e) in
    let fl : FitsSigned w128 c.lesser-2.result = search rules in
    let first = c.lesser-2.ensures.first in
    let not-zero : c.args.slope ≡ pos 0 → ⊥ = λ e. c.if-slope-eq0.false (ap (of_z w128) e) in
    let down : c.args.slope <ℤ pos 0 = below_of c.args.slope not-zero (omega (arith, ints, c.if-slope-gt0.false)) in
    λ s l. skip_down c.args.value c.args.divisor c.args.slope c.rem-rest.result c.requires.unit c.requires.divisor exact c.rem-rest.ensures.low high not down s (omega (arith, ints, first, l))
