use Rattle.std.proofs.Common.{◌≡◌, ap, sym, subst, ◌∙◌, rules, ◌/◌, to_z, of_z}
use Rattle.std.proofs.Math.IntN.{pos}
use Rattle.std.specs.Prelude.{unsigned_abs, FitsSigned}
use Rattle.std.specs.Int.{w128}
use Rattle.std.proofs.lemmas.Int.{to_z-of_z}
use Rattle.math_cooper.specs.System.{lead, times_condition, unit}
use Rattle.cooper_solve.specs.Views.{WideIn}
use Rattle.cooper_solve.proofs.Scaled.{wide_result, unit_times}
use Rattle.cooper_solve.proofs.scale.unit_one.Goals as goal

pub returns-else-lead-eq0 : goal.returns-else-lead-eq0
returns-else-lead-eq0 c =
    let i = c.args.last in
    let x = c.args.constraint.now in
    let C = unsigned_abs c.args.c in
    let fc = to_z-of_z w128 c.args.c c.ranges.c in
    let fl : FitsSigned w128 c.lead-lead.result = search rules in
    let fm : FitsSigned w128 c.multiplier_of.result = search rules in
    let lead_is = to_z-of_z w128 c.lead-lead.result fl ∙ c.lead-lead.ensures in
    let some : lead i x ≡ pos 0 → ⊥ = λ e. c.if-lead-eq0.false (ap (of_z w128) (c.lead-lead.ensures ∙ e)) in
    let k = unsigned_abs (to_z w128 (of_z w128 c.multiplier_of.result)) in
    let multiplier : k ≡ C / unsigned_abs (lead i x) = ap unsigned_abs (to_z-of_z w128 c.multiplier_of.result fm ∙ c.multiplier_of.ensures.value) ∙ (λ j. unsigned_abs (fc j) / unsigned_abs (lead_is j)) in
    let same : times_condition i k x ≡ unit i C x = ap (λ n. times_condition i n x) multiplier ∙ sym (unit_times i C x some) in
    wide_result c.times_one.result (λ r. r ≡ times_condition i k x) (λ r. r ≡ unit i C x) (WideIn (times_condition i k x)) (WideIn (unit i C x)) (λ r e. e ∙ same) (λ w. subst WideIn same w) c.times_one.ensures
