use Rattle.std.proofs.Common.{◌≡◌, ℕ, ◌<◌, subst, length, get_or, rules, arith, to_z, of_z}
use Rattle.std.specs.Prelude.{pos, FitsSigned}
use Rattle.std.specs.Int.{w128}
use Rattle.std.proofs.lemmas.Int.{ints, to_z-of_z}
use Rattle.cooper_solve.proofs.Summing.{nothing, lt_out}
use Rattle.lin_reduce.proofs.certificate.Sum.is_false.Goals as goal

pub returns : goal.returns
returns c = λ negative vs h.
    let own = c.args.self.now in
    let ff : FitsSigned w128 own.constant = search rules in
    let back = to_z-of_z w128 own.constant ff in
    let low = lt_out (to_z w128 (of_z w128 own.constant)) (pos 0) negative in
    let items = c.deref-number-items.result.now in
    let all : (k : ℕ) → k < length items → get_or items k (pos 0) ≡ pos 0 = λ k l. c.loop-number.invariant k (let e = c.loop-number-test.false in omega arith) in
    let none = nothing own.coefficients.items vs (subst (λ ns. (k : ℕ) → k < length ns → get_or ns k (pos 0) ≡ pos 0) c.deref-number-items.ensures.value all) in
    omega (arith, ints)
