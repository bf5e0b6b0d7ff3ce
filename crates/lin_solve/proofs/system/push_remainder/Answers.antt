use Rattle.std.proofs.Common.{◌≡◌, ◌+◌, ◌^◌, ◌<◌, ap, ◌∙◌, arith, rules, to_z}
use Rattle.std.proofs.Math.IntN.{pos, negsuc, ◌-ℤ◌}
use Rattle.std.specs.Prelude.{unsigned_abs, FitsSigned}
use Rattle.std.specs.Int.{w128}
use Rattle.std.proofs.lemmas.Int.{to_z-of_z, ints, fits_signed_from_abs}
use Rattle.model_chain.specs.Literals.{add_at}
use Rattle.lin_solve.specs.Plain.{plain_known, plain_remainder}
use Rattle.lin_solve.proofs.Filled.{within_up}
use Rattle.lin_solve.proofs.Pushed.{three_pushed, divided_is, least_is, to_z-small}
use Rattle.lin_solve.proofs.system.push_remainder.Goals as goal

pub add_at-requires-clause-small : goal.add_at-requires-clause-small
add_at-requires-clause-small c = within_up (2 ^ 100) (2 ^ 120) c.in_ok-coefficients.coefficients.items (omega arith) (c.in_ok-coefficients.ensures {u = tt}).1

pub returns : goal.returns
returns c =
    let R = plain_known c.args.known.now in
    let r = c.args.remainder.now in
    let n = c.args.variable in
    let small : r.divisor < 2 ^ 32 = search rules in
    let back : to_z w128 r.divisor ≡ pos r.divisor = to_z-small r.divisor small in
    let fc : FitsSigned w128 c.dividend_constant.result = search rules in
    let fd = fits_signed_from_abs w128 (to_z w128 r.divisor -ℤ pos 1) (omega (arith, ints)) in
    let row = c.add_at.ensures.row ∙ ap (add_at n (negsuc 0)) (c.in_ok-coefficients.ensures {u = tt}).0 in
    three_pushed R n (plain_remainder r) c.args.out.now.items _ _ _ _ _ _
    ((c.in_ok-push.ensures {u = tt}).items) ((c.in_ok-push-2.ensures {u = tt}).items) ((c.in_ok-push-3.ensures {u = tt}).items)
    (c.in_ok-one_at.ensures {u = tt}) (c.in_ok-one_at-2.ensures {u = tt} ∙ least_is _ _ _ (to_z-of_z w128 (to_z w128 r.divisor -ℤ pos 1) fd ∙ ap (λ z. z -ℤ pos 1) back))
    (divided_is R r.divisor _ n r.inner _ _ (ap unsigned_abs back) (to_z-of_z w128 c.dividend_constant.result fc ∙ c.dividend_constant.ensures) row)
