use Rattle.std.proofs.Common.{◌∙◌, ◌<◌, length, arith, ap, subst, IsSome, sym, get_or, false}
use Rattle.label_split.specs.Known.{settled}
use Rattle.label_split.proofs.Truths.{never_holds, sign_at}
use Rattle.label_split.specs.Numbers.{HaveSigns}
use Rattle.label_split.proofs.Forcing.{forces_none, forces_sign}
use Rattle.label_split.proofs.search.open_after.Goals as goal

pub returns-in-None-clause-none : goal.returns-in-None-clause-none
returns-in-None-clause-none c = λ truths follows have.
    never_holds c.args.known.now.signs.items truths c.index-asked-number.result (get_or c.args.asked.now.signs.now c.args.number false) (subst (λ f. IsSome (settled c.args.known.now.signs.items f)) (sym c.index-asked-number.is) c.in-None.ensures.none)
    (λ e. c.requires.unsettled.unsettled c.index-asked-number.result (ap (settled c.args.known.now.signs.items) (sym c.index-asked-number.is) ∙ e)) follows
    (sign_at c.args.asked.now.formulas.now c.args.asked.now.signs.now truths c.args.number c.index-asked-number.result c.requires.unsettled.low c.index-asked-number.is have)

pub returns-in-Some-clause-some : goal.returns-in-Some-clause-some
returns-in-Some-clause-some c =
    let low : c.in-Some.atom < length c.args.known.now.signs.items = c.in-Some.ensures.some.1 (length c.args.known.now.signs.items) (c.requires.asked.within c.args.number c.index-asked-number.result c.requires.unsettled.low) in
    (omega (arith, low, c.force.ensures.many), c.in-Some.ensures.some.0)

pub offset_bounds-asked-number : goal.offset_bounds-asked-number
offset_bounds-asked-number c = omega arith

pub bounds-asked-number : goal.bounds-asked-number
bounds-asked-number c = c.requires.unsettled.low

pub offset_bounds-asked-number-in-Some : goal.offset_bounds-asked-number-in-Some
offset_bounds-asked-number-in-Some c = omega arith

pub bounds-asked-number-in-Some : goal.bounds-asked-number-in-Some
bounds-asked-number-in-Some c = c.requires.unsettled.low

pub bounds-asked-number-in-Some-2 : goal.bounds-asked-number-in-Some-2
bounds-asked-number-in-Some-2 c = subst (λ n. c.args.number < n) (sym c.requires.asked.lengths) c.requires.unsettled.low

pub returns-in-None-clause-forces : goal.returns-in-None-clause-forces
returns-in-None-clause-forces c = forces_none (HaveSigns c.args.asked.now.formulas.now c.args.asked.now.signs.now) c.args.known.now.signs.items

pub returns-in-Some-clause-forces : goal.returns-in-Some-clause-forces
returns-in-Some-clause-forces c = forces_sign c.args.asked.now.formulas.now c.args.asked.now.signs.now c.args.number c.index-asked-number-in-Some.result c.requires.unsettled.low c.index-asked-number-in-Some.is c.args.known.now.signs.items c.force.new.known.signs.items c.force.ensures
