use Rattle.std.proofs.Common.{◌≡◌, ◌<◌, length, get_or, true, false, sym, ap, ◌∙◌, arith}
use Rattle.std.proofs.lemmas.Result.{IfOk-from_err, IfOk-at_ok}
use Rattle.std.proofs.lemmas.List.{length-set, length-replicate}
use Rattle.model_sta.specs.Sets.{has}
use Rattle.model_sta.proofs.Reached.{same_default}
use Rattle.sta_classes.specs.Bits.{both}
use Rattle.sta_classes.proofs.Meet.{both_length}
use Rattle.sta_classes.proofs.Numbers.{fired_more, fired_first, fired_last}
use Rattle.sta_classes.proofs.row.numbers_at.Goals as goal

pub meet-requires : goal.meet-requires
meet-requires c = c.requires.second ∙ sym c.requires.first ∙ sym (ap length (IfOk-at_ok _ c.in_ok-row.ensures.1 c.copy.ensures))

pub numbers-init : goal.numbers-init
numbers-init c =
    let empty = IfOk-at_ok _ c.in_ok-row.ensures.0 c.new.ensures in
    let inside : c.meet.new.self ≡ both c.args.first.now c.args.second.now = c.meet.ensures ∙ ap (λ r. both r c.args.second.now) (IfOk-at_ok _ c.in_ok-row.ensures.1 c.copy.ensures) in
    let long : length c.meet.new.self ≡ length c.args.list.now = ap length inside ∙ both_length c.args.first.now c.args.second.now (c.requires.second ∙ sym c.requires.first) ∙ c.requires.first in
    record {
      many = ap length empty ∙ length-replicate c.args.places false;
      taken = fired_first (λ n. n) c.args.list.now (both c.args.first.now c.args.second.now) c.in_ok-row.row c.args.places c.next-i.result empty (λ i low below. sym (ap (λ r. has r i) inside) ∙ c.next-i.ensures.none i low below);
      here = λ low. sym (ap (λ r. has r c.next-i.result) inside) ∙ c.next-i.ensures.some (omega (arith, low, long));
    }

pub bounds-list-i : goal.bounds-list-i
bounds-list-i c = c.numbers-test.true

pub insert-requires : goal.insert-requires
insert-requires c = omega (arith, c.requires.low c.numbers.i 0 c.numbers-test.true, c.numbers.invariant.many)

pub numbers-preserved : goal.numbers-preserved
numbers-preserved c =
    let inside : c.meet.new.self ≡ both c.args.first.now c.args.second.now = c.meet.ensures ∙ ap (λ r. both r c.args.second.now) (IfOk-at_ok _ c.in_ok-row.ensures.1 c.copy.ensures) in
    let long : length c.meet.new.self ≡ length c.args.list.now = ap length inside ∙ both_length c.args.first.now c.args.second.now (c.requires.second ∙ sym c.requires.first) ∙ c.requires.first in
    let number = get_or c.args.list.now c.numbers.i 0 in
    let number_low : number < c.args.places = c.requires.low c.numbers.i 0 c.numbers-test.true in
    record {
      many = ap length c.insert.ensures ∙ length-set c.numbers.row number true ∙ c.numbers.invariant.many;
      taken = fired_more (λ n. n) c.args.list.now (both c.args.first.now c.args.second.now) c.numbers.row c.insert.new.self c.numbers.i c.next-i-in-numbers.result number (omega (arith, number_low, c.numbers.invariant.many)) c.numbers-test.true (same_default c.args.list.now c.numbers.i 0 number c.numbers-test.true)
          (c.numbers.invariant.here c.numbers-test.true) c.insert.ensures c.next-i-in-numbers.ensures.from (λ k low below. sym (ap (λ r. has r k) inside) ∙ c.next-i-in-numbers.ensures.none k low below) c.numbers.invariant.taken;
      here = λ low. sym (ap (λ r. has r c.next-i-in-numbers.result) inside) ∙ c.next-i-in-numbers.ensures.some (omega (arith, low, long));
    }

pub returns : goal.returns
returns c = record { many = c.numbers.invariant.many; each = fired_last (λ n. n) c.args.list.now (both c.args.first.now c.args.second.now) c.numbers.row c.numbers.i (omega (arith, c.numbers-test.false)) c.numbers.invariant.taken }

pub returns-in_err-row : goal.returns-in_err-row
returns-in_err-row c = IfOk-from_err c.from_residual.result _ c.from_residual.ensures.0
