use Rattle.std.proofs.Common.{subst, take_all, arith}
use Rattle.label_core.specs.Atoms.{EachHasEqual}
use Rattle.lin_solve.specs.contracts.compare.ComparePartialEq.TheImpl.{ghosts as compares}
use Rattle.lin_solve.specs.Kept.{is_same}
use Rattle.lin_solve.proofs.Alike.{never_among}
use Rattle.lin_solve.proofs.memo.Refuted.is_among.Goals as goal

pub returns : goal.returns
returns c =
    let ls = c.args.self.now.literals.items in
    let ms = c.args.others.now.literals.now in
    let each = subst (λ ks. EachHasEqual (is_same compares.eq) ks ms) (take_all c.loop-i.i ls (omega arith)) c.loop-i.invariant in
    λ _. never_among ls ms each c.args.self.now.never
