use Rattle.std.proofs.Common.{sym, subst}
use Rattle.model_chain.specs.Literals.{HoldsAll}
use Rattle.lin_solve.specs.Plain.{plain_literals}
use Rattle.lin_solve.specs.Sought.{TellsSought}
use Rattle.lin_solve.proofs.apart.seek_apart.Goals as goal

pub returns-in-Never : goal.returns-in-Never
returns-in-Never c = λ us eight h.
    let gone = subst (TellsSought (plain_literals c.deref-then-tied-done-eq0-2.result.now)) c.in-Never.is (c.in_ok-seek_together.ensures {u = tt}) in
    gone us eight (subst (λ ls. HoldsAll (plain_literals ls) us) (sym c.deref-then-tied-done-eq0-2.ensures.value) (c.in_ok-own.ensures {u = tt} us eight h))
