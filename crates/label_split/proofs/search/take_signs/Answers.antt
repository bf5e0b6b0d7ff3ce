use Rattle.std.proofs.Common.{sym, subst}
use Rattle.label_split.specs.Numbers.{AreAsked, HaveSigns}
use Rattle.label_split.proofs.Forcing.{forces_none, forces_more, true_isnt_false}
use Rattle.label_split.proofs.search.take_signs.Goals as goal

pub loop-number-init : goal.loop-number-init
loop-number-init c = forces_none (HaveSigns c.args.asked.now.formulas.now c.args.asked.now.signs.now) c.args.known.now.signs.items

pub take_sign-requires : goal.take_sign-requires
take_sign-requires c = record { asked = subst (λ n. AreAsked n c.args.asked.now.formulas.now c.args.asked.now.signs.now) (sym c.loop-number.invariant.many) c.requires.asked }

pub returns-then-not-take_sign-clause-forces : goal.returns-then-not-take_sign-clause-forces
returns-then-not-take_sign-clause-forces c = forces_more (HaveSigns c.args.asked.now.formulas.now c.args.asked.now.signs.now) c.args.known.now.signs.items c.loop-number.known.signs.items c.take_sign.new.known.signs.items c.loop-number.invariant c.take_sign.ensures.forces

pub returns-then-not-take_sign-clause-may : goal.returns-then-not-take_sign-clause-may
returns-then-not-take_sign-clause-may c = λ e. c.take_sign.ensures.may c.if-not-take_sign.true

pub loop-number-preserved : goal.loop-number-preserved
loop-number-preserved c = forces_more (HaveSigns c.args.asked.now.formulas.now c.args.asked.now.signs.now) c.args.known.now.signs.items c.loop-number.known.signs.items c.take_sign.new.known.signs.items c.loop-number.invariant c.take_sign.ensures.forces

pub returns-clause-forces : goal.returns-clause-forces
returns-clause-forces c = c.loop-number.invariant

pub returns-clause-may : goal.returns-clause-may
returns-clause-may c = λ e truths follows have. true_isnt_false e
