use Rattle.std.proofs.Common.{arith, rules, get_or, take_all, subst}
use Rattle.std.proofs.Math.IntN.{pos}
use Rattle.std.specs.Prelude.{FitsSigned}
use Rattle.std.specs.Int.{w128}
use Rattle.std.specs.List.{All}
use Rattle.std.proofs.lemmas.List.Elements.{All-more}
use Rattle.cooper_solve.proofs.fit.row_fits.Goals as goal

pub loop-a-preserved : goal.loop-a-preserved
loop-a-preserved c =
    let f : FitsSigned w128 (get_or c.args.row.now c.loop-a.a-index (pos 0)) = search rules in
    All-more (FitsSigned w128) c.args.row.now c.loop-a.a-index (pos 0) (omega arith) c.loop-a.invariant f

pub returns : goal.returns
returns c = subst (All (FitsSigned w128)) (take_all c.loop-a.a-index c.args.row.now (omega arith)) c.loop-a.invariant
