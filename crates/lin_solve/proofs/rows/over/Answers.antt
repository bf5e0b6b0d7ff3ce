use Rattle.std.proofs.Common.{◌+◌, ◌^◌, true, false, ap, ◌∙◌, arith}
use Rattle.std.specs.Prelude.{FitsSigned}
use Rattle.std.specs.Int.{w64}
use Rattle.std.proofs.lemmas.Int.{ints}
use Rattle.model_form.specs.Form.{constant_of}
use Rattle.model_form.specs.Sums.{sign}
use Rattle.model_chain.specs.Literals.{add_terms}
use Rattle.lin_solve.specs.Plain.{plain_known}
use Rattle.lin_solve.proofs.Filled.{within_up, constant_small, over_is}
use Rattle.std.proofs.Common.{⊎_elim}
use Rattle.lin_solve.proofs.rows.over.Goals as goal

pub add_form-requires : goal.add_form-requires
add_form-requires c = record { small = within_up 0 (2 ^ 105) c.in_ok-coefficients.coefficients.items (omega arith) (c.in_ok-coefficients.ensures {u = tt}).1 }

pub add_form-requires-2 : goal.add_form-requires-2
add_form-requires-2 c = record { small = within_up (0 + 2 ^ 100) (2 ^ 105) c.add_form.new.row.items (omega arith) (c.add_form.ensures.small 0 (c.in_ok-coefficients.ensures {u = tt}).1) }

pub returns : goal.returns
returns c =
    let f = c.args.first.now in
    let g = c.args.second.now in
    let R = plain_known c.args.known.now in
    let ff : FitsSigned w64 (constant_of f) = constant_small f c.constant.ensures.form in
    let fg : FitsSigned w64 (constant_of g) = constant_small g c.constant-2.ensures.form in
    let e = c.constant.ensures.value in
    let d = c.constant-2.ensures.value in
    let row = c.add_form-2.ensures.row ∙ ap (add_terms R (sign true) g) (c.add_form.ensures.row ∙ ap (add_terms R (sign false) f) (c.in_ok-coefficients.ensures {u = tt}).0) in
    over_is R f g c.args.offset _ c.add_form-2.new.row.items (⊎_elim (λ z. omega (arith, ints, z, e, d)) (λ z. omega (arith, ints, z, e, d)) c.requires) row
