use Rattle.std.proofs.Common.{◌≡◌, ◌+◌, ◌*◌, ◌^◌, length, drop, ap, sym, subst, ◌∙◌, arith, rules, to_z, of_z}
use Rattle.std.proofs.Math.IntN.{◌*ℤ◌}
use Rattle.std.specs.Prelude.{FitsSigned}
use Rattle.std.specs.Int.{w128}
use Rattle.model_form.specs.Sums.{sign}
use Rattle.model_chain.specs.Literals.{add_at, add_places, place}
use Rattle.lin_form.specs.Terms.{plain_remainders}
use Rattle.lin_solve.specs.Plain.{Within, plain_known, plain_term}
use Rattle.lin_solve.proofs.Numbered.{known_length}
use Rattle.lin_solve.proofs.Filled.{places_step, place_coefficient, within_up, place_le, coefficient_back, signed_back, one_row, grown}
use Rattle.lin_solve.proofs.rows.add_places.Goals as goal

pub overflow_add-place_of : goal.overflow_add-place_of
overflow_add-place_of c =
    let low = place_le (plain_term c.term-item.result) (plain_known c.args.known.now) in
    let count = known_length c.args.known.now in
    let at = c.place_of.ensures in
    omega arith

pub signed-requires : goal.signed-requires
signed-requires c = coefficient_back c.term-item.result.coefficient (place_coefficient c.args.terms.now c.loop-term.term-index c.term-item.result c.requires.terms c.loop-term-test.true c.term-item.is)

pub add_at-requires-clause-small : goal.add_at-requires-clause-small
add_at-requires-clause-small c =
    let few = c.loop-term-test.true in
    within_up (2 ^ 110 + c.loop-term.term-index * 2 ^ 31) (2 ^ 120) c.loop-term.row.items (omega arith) (c.loop-term.invariant.small (2 ^ 110) c.requires.small)

pub loop-term-preserved : goal.loop-term-preserved
loop-term-preserved c =
    let ts = c.args.terms.now in
    let k = c.loop-term.term-index in
    let t = c.term-item.result in
    let R = plain_known c.args.known.now in
    let own = place_coefficient ts k t c.requires.terms c.loop-term-test.true c.term-item.is in
    let fs : FitsSigned w128 c.signed.result = search rules in
    let by = sign c.args.minus in
    let number = signed_back t.coefficient c.signed.result c.args.minus own c.signed.ensures.value fs in
    let at : add_at (8 + c.place_of.result) (by *ℤ t.coefficient) c.loop-term.row.items ≡ add_at (8 + place (plain_term t) R) (by *ℤ t.coefficient) c.loop-term.row.items = ap (λ n. add_at (8 + n) (by *ℤ t.coefficient) c.loop-term.row.items) c.place_of.ensures in
    let next = one_row c.loop-term.row.items c.add_at.new.row.items (8 + c.place_of.result) (to_z w128 (of_z w128 c.signed.result)) (by *ℤ t.coefficient) c.add_at.ensures.row number ∙ at in
    record {
      row = ap (add_places R by (plain_remainders (drop (k + 1) ts))) next ∙ sym (places_step R by ts k t c.loop-term.row.items c.loop-term-test.true c.term-item.is) ∙ c.loop-term.invariant.row;
      small = λ b h. grown b k c.args.row.now.items c.loop-term.row.items c.add_at.new.row.items c.loop-term.invariant.small c.add_at.ensures.small h;
    }

pub returns-clause-small : goal.returns-clause-small
returns-clause-small c = λ b h. let e : c.loop-term.term-index ≡ length c.args.terms.now = omega arith in subst (λ n. Within (b + n * 2 ^ 31) c.loop-term.row.items) e (c.loop-term.invariant.small b h)
