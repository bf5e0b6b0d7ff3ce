use Rattle.std.proofs.Common.{ap, sym, ◌∙◌, arith}
use Rattle.std.specs.Option.{option_copied}
use Rattle.lin_solve.proofs.Numbered.{first_lower}
use Rattle.lin_solve.proofs.guess.+first_term.Goals as goal

pub first_term-requires : goal.first_term-requires
first_term-requires t c =
    let first = sym (ap option_copied c.in-Some-first.is) ∙ c.first-2.ensures.value in
    let low = first_lower c.args.form.now c.remainders.result.now c.in-Some-first.remainder.now c.innermost.result.0.now c.remainders.ensures.value first c.innermost.ensures.form in
    let d = c.decreases in
    omega arith
