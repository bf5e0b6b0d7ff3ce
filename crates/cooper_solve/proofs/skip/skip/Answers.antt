use Rattle.std.proofs.Common.{◌≡◌, ℕ, List, ⊎_elim, ap, sym, subst, ◌∙◌, rules, length, get_or, to_z, of_z, ◌<◌, arith}
use Rattle.std.proofs.Math.IntN.{ℤ, pos, ◌+ℤ◌, ◌*ℤ◌}
use Rattle.std.specs.Prelude.{FitsSigned, ◌<ℤ◌}
use Rattle.std.specs.Int.{w128}
use Rattle.std.proofs.lemmas.Int.{to_z-of_z, ints}
use Rattle.std.proofs.lemmas.List.{get_or_default}
use Rattle.math_cooper.specs.Line.{Meets}
use Rattle.math_cooper.specs.System.{lead, dot}
use Rattle.cooper_solve.specs.Views.{slope, NoneFrom, no_condition}
use Rattle.cooper_solve.proofs.Skipped.{none_later, none_start, none_either}
use Rattle.cooper_solve.proofs.skip.skip.Goals as goal

pub loop-i-init : goal.loop-i-init
loop-i-init c = record { natural = omega (arith, ints); most = let p = c.requires.left in omega (arith, ints); none = none_start c.args.direction c.args.last c.args.system.now c.args.after.now }

pub loop-i-preserved : goal.loop-i-preserved
loop-i-preserved c =
    let d = c.args.direction in
    let i = c.args.last in
    let R = c.args.system.now in
    let T = c.args.after.now in
    let n = c.loop-i.i in
    let inv = c.loop-i.invariant in
    let fg : FitsSigned w128 c.greater-most.result = search rules in
    let fs : FitsSigned w128 c.skip_one.result = search rules in
    let fl : FitsSigned w128 c.lead.result = search rules in
    let fo : FitsSigned w128 c.slope_of-slope.result = search rules in
    let back = to_z-of_z w128 c.greater-most.result fg in
    let other = to_z-of_z w128 c.skip_one.result fs in
    let within : n < length R = let e = c.requires.same in omega arith in
    let item : c.index-system-i.result ≡ get_or R n no_condition = c.index-system-i.is ∙ get_or_default R n c.index-system-i.result no_condition within in
    let here : c.index-after-i.result ≡ get_or T n no_condition = c.index-after-i.is ∙ get_or_default T n c.index-after-i.result no_condition (omega arith) in
    let slope_is : to_z w128 (of_z w128 c.slope_of-slope.result) ≡ slope d (lead i (get_or R n no_condition)) = to_z-of_z w128 c.slope_of-slope.result fo ∙ c.slope_of-slope.ensures.value ∙ ap (slope d) (to_z-of_z w128 c.lead.result fl ∙ c.lead.ensures ∙ ap (lead i) item) in
    let own : NoneFrom i d R T c.skip_one.result = none_later d i R T n c.index-after-i.result c.skip_one.result within (omega arith) here
    (subst (λ a. (s : ℕ) (ws : List ℤ) → pos s <ℤ c.skip_one.result → Meets c.index-after-i.result.kind ((dot c.index-after-i.result.coefficients ws +ℤ c.index-after-i.result.constant) +ℤ (a *ℤ pos s)) → ⊥) slope_is c.skip_one.ensures.none) in
    let which = c.greater-most.ensures.which in
    let natural = inv.natural in
    let most = inv.most in
    let low = c.skip_one.ensures.natural in
    let high = c.skip_one.ensures.most in
    let first = c.greater-most.ensures.first in
    record {
      natural = omega (arith, ints, first, natural);
      most = ⊎_elim (λ e. omega (arith, ints, e, most)) (λ e. omega (arith, ints, e, high)) which;
      none = subst (NoneFrom i d R T) (sym back) (none_either i d R T (to_z w128 c.loop-i.most-bits) (to_z w128 (of_z w128 c.skip_one.result)) c.greater-most.result which inv.none (subst (NoneFrom i d R T) (sym other) own));
    }
