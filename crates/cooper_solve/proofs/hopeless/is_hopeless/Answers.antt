use Rattle.std.proofs.Common.{sym, subst}
use Rattle.cooper_solve.specs.Sums.{AreAtLeast}
use Rattle.cooper_solve.proofs.hopeless.is_hopeless.Goals as goal

pub returns-then-any_false : goal.returns-then-any_false
returns-then-any_false c = λ _ vs h. c.any_false.ensures c.if-any_false.true vs (subst (AreAtLeast vs) (sym c.deref.ensures.value) (c.loop.invariant vs h))

pub returns : goal.returns
returns c = λ yes vs h. c.any_false-2.ensures yes vs (subst (AreAtLeast vs) (sym c.deref-2.ensures.value) (c.loop.invariant vs h))
