use Rattle.std.proofs.Common.{◌∙◌, sym, subst, rules}
use Rattle.std.proofs.Math.IntN.{pos}
use Rattle.std.specs.Prelude.{◌<ℤ◌, unsigned_abs, FitsSigned}
use Rattle.std.specs.Int.{w128}
use Rattle.std.proofs.lemmas.Int.{to_z-of_z}
use Rattle.math_cooper.specs.Puts.{IsPeriod}
use Rattle.cooper_solve.proofs.Numbers.{periods_some, period_is, period_beyond}
use Rattle.cooper_solve.proofs.scale.period.Goals as goal

pub least_multiple-requires : goal.least_multiple-requires
least_multiple-requires c = periods_some c.args.last c.args.system.now c.requires.1 c.deref.result.now (c.deref.ensures.value ∙ c.in_ok-numbers.ensures {u = tt})

pub returns-in-Some : goal.returns-in-Some
returns-in-Some c =
    let h = c.in-Some.ensures {u = tt} in
    let fits : FitsSigned w128 c.in-Some.multiple = search rules in
    let back = to_z-of_z w128 c.in-Some.multiple fits in
    subst (λ z. (pos 0 <ℤ z) × IsPeriod c.args.last c.args.system.now (unsigned_abs z)) (sym back) (h.0, period_is c.args.last c.args.system.now c.requires.1 c.deref.result.now (unsigned_abs c.in-Some.multiple) (c.deref.ensures.value ∙ c.in_ok-numbers.ensures {u = tt}) h.1)

pub returns : goal.returns
returns c = period_beyond c.args.last c.args.system.now c.requires.1 c.deref.result.now (c.deref.ensures.value ∙ c.in_ok-numbers.ensures {u = tt}) (c.in-None.ensures {u = tt})
