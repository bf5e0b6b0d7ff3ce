use Rattle.std.proofs.Common.{◌≡◌, rules, get_or}
use Rattle.std.proofs.Math.IntN.{pos, neg_ℤ, ◌+ℤ◌, ◌*ℤ◌}
use Rattle.std.specs.Prelude.{FitsSigned, ◌≤ℤ◌}
use Rattle.std.specs.Int.{w128}
use Rattle.std.proofs.lemmas.Int.{to_z-of_z}
use Rattle.lin_reduce.proofs.Cutting.{pinned_value}
use Rattle.lin_reduce.proofs.pins.is_pinned.Goals as goal

pub returns-in_ok-is_bound-2 : goal.returns-in_ok-is_bound-2
returns-in_ok-is_bound-2 c = λ yes vs many h i.
    let pin = c.args.pin in
    let some : pin.times ≡ pos 0 → ⊥ = search rules in
    let none : pin.constant +ℤ (pin.times *ℤ pin.value) ≡ pos 0 = search rules in
    let turned : c.in-Some-Some.times ≡ neg_ℤ pin.times = search rules in
    let opposite : c.in-Some-Some.constant ≡ neg_ℤ pin.constant = search rules in
    let ft : FitsSigned w128 pin.times = search rules in
    let fk : FitsSigned w128 pin.constant = search rules in
    let fu : FitsSigned w128 c.in-Some-Some.times = search rules in
    let fm : FitsSigned w128 c.in-Some-Some.constant = search rules in
    let low : pos 0 ≤ℤ ((pin.times *ℤ get_or vs pin.of (pos 0)) +ℤ pin.constant) = simp to_z-of_z at (c.in_ok-is_bound.ensures {u = tt} c.if-branch.true vs many h) in
    let high : pos 0 ≤ℤ ((c.in-Some-Some.times *ℤ get_or vs pin.of (pos 0)) +ℤ c.in-Some-Some.constant) = simp to_z-of_z at (c.in_ok-is_bound-2.ensures {u = tt} yes vs many i) in
    pinned_value pin.times pin.constant c.in-Some-Some.times c.in-Some-Some.constant (get_or vs pin.of (pos 0)) pin.value some none turned opposite low high
