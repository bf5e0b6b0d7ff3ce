use Rattle.std.proofs.Common.{◌∙◌, ◌<◌, sym, ap, length, false, get_or, subst}
use Rattle.label_split.specs.Known.{settled}
use Rattle.label_split.specs.Numbers.{HaveSigns}
use Rattle.label_split.proofs.Forcing.{forces_none, forces_sign, true_isnt_false}
use Rattle.label_split.proofs.Truths.{settled_holds, sign_at, other_bools}
use Rattle.std.proofs.Common.{arith}
use Rattle.label_split.proofs.search.take_sign.Goals as goal

pub returns-in-Some-clause-may : goal.returns-in-Some-clause-may
returns-in-Some-clause-may c = λ e truths follows have.
    let low : c.args.number < length c.args.asked.now.formulas.now = c.if-number-asked.false in
    other_bools c.in-Some.holds (get_or c.args.asked.now.signs.now c.args.number false) e
    (sym (settled_holds c.args.known.now.signs.items truths c.index-asked-number.result c.in-Some.holds (ap (settled c.args.known.now.signs.items) c.index-asked-number.is ∙ sym c.settled.ensures ∙ c.in-Some.is) follows) ∙ sign_at c.args.asked.now.formulas.now c.args.asked.now.signs.now truths c.args.number c.index-asked-number.result low c.index-asked-number.is have)

pub returns-then-number-asked-clause-forces : goal.returns-then-number-asked-clause-forces
returns-then-number-asked-clause-forces c = forces_none (HaveSigns c.args.asked.now.formulas.now c.args.asked.now.signs.now) c.args.known.now.signs.items

pub returns-then-number-asked-clause-may : goal.returns-then-number-asked-clause-may
returns-then-number-asked-clause-may c = λ e truths follows have. true_isnt_false e

pub bounds-asked-number : goal.bounds-asked-number
bounds-asked-number c = c.if-number-asked.false

pub bounds-asked-number-in-Some : goal.bounds-asked-number-in-Some
bounds-asked-number-in-Some c = subst (λ n. c.args.number < n) (sym c.requires.asked.lengths) c.if-number-asked.false

pub bounds-asked-number-in-None : goal.bounds-asked-number-in-None
bounds-asked-number-in-None c = c.if-number-asked.false

pub bounds-asked-number-in-None-2 : goal.bounds-asked-number-in-None-2
bounds-asked-number-in-None-2 c = subst (λ n. c.args.number < n) (sym c.requires.asked.lengths) c.if-number-asked.false

pub returns-in-Some-clause-forces : goal.returns-in-Some-clause-forces
returns-in-Some-clause-forces c = forces_none (HaveSigns c.args.asked.now.formulas.now c.args.asked.now.signs.now) c.args.known.now.signs.items

pub returns-in-None-clause-may : goal.returns-in-None-clause-may
returns-in-None-clause-may c = λ e truths follows have. true_isnt_false e

pub offset_bounds-asked-number : goal.offset_bounds-asked-number
offset_bounds-asked-number c = omega arith

pub offset_bounds-asked-number-in-None : goal.offset_bounds-asked-number-in-None
offset_bounds-asked-number-in-None c = omega arith

pub returns-in-None-clause-forces : goal.returns-in-None-clause-forces
returns-in-None-clause-forces c = forces_sign c.args.asked.now.formulas.now c.args.asked.now.signs.now c.args.number c.index-asked-number-in-None.result c.if-number-asked.false c.index-asked-number-in-None.is c.args.known.now.signs.items c.force.new.known.signs.items c.force.ensures
