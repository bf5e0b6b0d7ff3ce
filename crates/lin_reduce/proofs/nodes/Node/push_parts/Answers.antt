use Rattle.std.proofs.Common.{◌≡◌, sym, subst, rules, arith, to_z, of_z}
use Rattle.std.proofs.Math.IntN.{pos, ◌-ℤ◌}
use Rattle.std.specs.Prelude.{FitsSigned}
use Rattle.std.specs.Int.{w128}
use Rattle.std.proofs.lemmas.Int.{to_z-of_z, ints, by_lt_z}
use Rattle.lin_reduce.specs.declared.moves.Scale.{Scale}
use Rattle.lin_reduce.specs.Parts.{AnySolvable, IsPartSolvable}
use Rattle.lin_reduce.proofs.Splitting.{some_part}
use Rattle.lin_reduce.proofs.nodes.Node.push_parts.Goals as goal

pub loop-rest-preserved : goal.loop-rest-preserved
loop-rest-preserved c =
    let i = c.loop-rest.invariant in
    let R = to_z w128 c.loop-rest.rest-bits in
    let next = to_z w128 (of_z w128 (R -ℤ pos 1)) in
    let more = c.loop-rest-test.true in
    let low = i.low in
    let high = i.high in
    let ft : FitsSigned w128 c.args.split.times = search rules in
    let t = to_z-of_z w128 c.args.split.times ft in
    let back : next ≡ R -ℤ pos 1 = omega (arith, ints) in
    record {
      low = omega (arith, ints);
      high = omega (arith, ints);
      parts = λ r lo hi p. by_lt_z r R
          (λ l. let same : next ≡ r = omega (arith, ints) in c.in_ok-push_part.ensures.part c.args.count (subst (λ (s : Scale). IsPartSolvable c.args.count s c.args.self.now.system.items) (λ j. record { of = c.args.split.of; times = sym t j; rest = sym same j }) p))
          (λ g. c.in_ok-push_part.ensures.kept c.args.count (i.parts r g hi p));
      kept = λ a. c.in_ok-push_part.ensures.kept c.args.count (i.kept a);
    }

pub returns-clause-parts : goal.returns-clause-parts
returns-clause-parts c = λ s.
    let i = c.loop-rest.invariant in
    let low = i.low in
    let none = c.loop-rest-test.false in
    let ft : FitsSigned w128 c.args.split.times = search rules in
    some_part c.args.count c.args.split.of c.args.split.times c.args.self.now.system.items (AnySolvable c.args.count c.loop-rest.pending.items) c.if-split-count.false (let g = c.if-split-lt1.false in omega (arith, ints)) (λ r lo hi p. i.parts r (omega (arith, ints)) hi p) s
