use Rattle.std.proofs.Common.{◌≡◌, subst, rules, take_all, get_or, arith}
use Rattle.std.proofs.Math.IntN.{pos}
use Rattle.std.specs.Prelude.{FitsSigned}
use Rattle.std.specs.Int.{w128}
use Rattle.std.specs.List.{All}
use Rattle.std.proofs.lemmas.Int.{ints}
use Rattle.std.proofs.lemmas.List.Elements.{All-more}
use Rattle.cooper_solve.proofs.skip.is_nought.Goals as goal

pub loop-a-preserved : goal.loop-a-preserved
loop-a-preserved c =
    let f : FitsSigned w128 (get_or c.args.row.now c.loop-a.a-index (pos 0)) = search rules in
    let z : get_or c.args.row.now c.loop-a.a-index (pos 0) ≡ pos 0 = omega (arith, ints) in
    All-more (λ a. a ≡ pos 0) c.args.row.now c.loop-a.a-index (pos 0) (omega arith) c.loop-a.invariant z

pub returns : goal.returns
returns c = λ _. subst (All (λ a. a ≡ pos 0)) (take_all c.loop-a.a-index c.args.row.now (omega arith)) c.loop-a.invariant
