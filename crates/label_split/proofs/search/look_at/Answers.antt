use Rattle.std.proofs.Common.{true, not, sym, subst, arith, ◌∙◌}
use Rattle.label_split.specs.Numbers.{truths_at, AreAsked, HaveSigns}
use Rattle.label_split.specs.Search.{DecidesKnown}
use Rattle.label_split.proofs.Forcing.{forces_more}
use Rattle.label_split.proofs.Looking.{looked_next, looks_wide}
use Rattle.label_split.proofs.Truths.{unsettled_by_wrong}
use Rattle.std.proofs.lemmas.Result.{IfOk-from_err}
use Rattle.label_split.proofs.search.look_at.Goals as goal

pub take_signs-requires : goal.take_signs-requires
take_signs-requires g c = record { asked = c.requires.asked }

pub returns-then-not-take_signs : goal.returns-then-not-take_signs
returns-then-not-take_signs g c = record {
  forces = c.take_signs.ensures.forces;
  looks = λ l has follows. c.take_signs.ensures.may c.if-not-take_signs.true (truths_at g.T.Theory.atom_holds c.args.atoms.now l) follows;
}

pub decide_known-requires-clause-many : goal.decide_known-requires-clause-many
decide_known-requires-clause-many g c = c.take_signs.ensures.forces.many ∙ c.requires.many

pub decide_known-requires-clause-fit : goal.decide_known-requires-clause-fit
decide_known-requires-clause-fit g c = c.requires.fit

pub returns-in_err-decide_known : goal.returns-in_err-decide_known
returns-in_err-decide_known g c = IfOk-from_err c.from_residual.result _ c.from_residual.ensures.0

pub returns-in-Unsat : goal.returns-in-Unsat
returns-in-Unsat g c = record {
  forces = c.take_signs.ensures.forces;
  looks = λ l has follows asked. subst (DecidesKnown (g.T.Theory.meaning c.args.theory.now) c.args.atoms.now c.take_signs.new.known.signs.items) c.in-Unsat.is c.in_ok-decide_known.ensures l has follows;
}

-- a value's label has what is known
pub wrong-requires-clause-asked : goal.wrong-requires-clause-asked
wrong-requires-clause-asked g c = subst (λ n. AreAsked n c.args.asked.now.formulas.now c.args.asked.now.signs.now) c.requires.many c.requires.asked

pub wrong-requires-clause-fit : goal.wrong-requires-clause-fit
wrong-requires-clause-fit g c = c.requires.fit

pub wrong-requires-clause-kept : goal.wrong-requires-clause-kept
wrong-requires-clause-kept g c = (subst (DecidesKnown (g.T.Theory.meaning c.args.theory.now) c.args.atoms.now c.take_signs.new.known.signs.items) c.in-Sat.is c.in_ok-decide_known.ensures).0

pub returns-in-None : goal.returns-in-None
returns-in-None g c = record {
  forces = c.take_signs.ensures.forces;
  looks = ((subst (DecidesKnown (g.T.Theory.meaning c.args.theory.now) c.args.atoms.now c.take_signs.new.known.signs.items) c.in-Sat.is c.in_ok-decide_known.ensures).0, c.in-None.ensures.right);
}

pub open_after-requires-clause-asked : goal.open_after-requires-clause-asked
open_after-requires-clause-asked g c = subst (λ n. AreAsked n c.args.asked.now.formulas.now c.args.asked.now.signs.now) (sym c.take_signs.ensures.forces.many) c.requires.asked

pub open_after-requires-clause-unsettled : goal.open_after-requires-clause-unsettled
open_after-requires-clause-unsettled g c =
    let value = subst (DecidesKnown (g.T.Theory.meaning c.args.theory.now) c.args.atoms.now c.take_signs.new.known.signs.items) c.in-Sat.is c.in_ok-decide_known.ensures in
    unsettled_by_wrong c.args.asked.now.formulas.now c.args.asked.now.signs.now c.take_signs.new.known.signs.items (truths_at g.T.Theory.atom_holds c.args.atoms.now (g.T.Theory.label_of c.in-Sat.value)) c.in-Some.number value.1 c.in-Some.ensures.wrong

pub returns-in-None-open_after : goal.returns-in-None-open_after
returns-in-None-open_after g c = record {
  forces = forces_more (HaveSigns c.args.asked.now.formulas.now c.args.asked.now.signs.now) c.args.known.now.signs.items c.take_signs.new.known.signs.items c.open_after.new.known.signs.items c.take_signs.ensures.forces c.open_after.ensures.forces;
  looks = λ l has follows. c.in-None-open_after.ensures.none (truths_at g.T.Theory.atom_holds c.args.atoms.now l) follows;
}

pub offset_bounds-atoms-atom : goal.offset_bounds-atoms-atom
offset_bounds-atoms-atom g c = omega (arith, c.in-Some-open_after.ensures.some.0, c.open_after.ensures.forces.many, c.take_signs.ensures.forces.many, c.requires.many)

pub bounds-atoms-atom : goal.bounds-atoms-atom
bounds-atoms-atom g c = omega (arith, c.in-Some-open_after.ensures.some.0, c.open_after.ensures.forces.many, c.take_signs.ensures.forces.many, c.requires.many)

pub holds-sign-requires-clause-value_fits : goal.holds-sign-requires-clause-value_fits
holds-sign-requires-clause-value_fits g c = (subst (DecidesKnown (g.T.Theory.meaning c.args.theory.now) c.args.atoms.now c.take_signs.new.known.signs.items) c.in-Sat.is c.in_ok-decide_known.ensures).0

pub go_on-requires : goal.go_on-requires
go_on-requires g c = c.in-Some-open_after.ensures.some.0

pub returns-in-Sat : goal.returns-in-Sat
returns-in-Sat g c = looked_next (g.T.Theory.meaning c.args.theory.now) c.args.atoms.now (HaveSigns c.args.asked.now.formulas.now c.args.asked.now.signs.now) c.args.known.now.signs.items c.take_signs.new.known.signs.items c.open_after.new.known.signs.items c.take_signs.ensures.forces c.open_after.ensures.forces c.in-Some.number c.in-Some-open_after.atom (not c.holds-sign.result) c.go_on.result c.in-Some-open_after.ensures.some.1 c.in-Some-open_after.ensures.some.0 c.go_on.ensures

-- what is known is too wide to decide
pub unsettled-requires : goal.unsettled-requires
unsettled-requires g c = record { asked = subst (λ n. AreAsked n c.args.asked.now.formulas.now c.args.asked.now.signs.now) (sym c.take_signs.ensures.forces.many) c.requires.asked }

pub returns-in-None-unsettled : goal.returns-in-None-unsettled
returns-in-None-unsettled g c = record {
  forces = c.take_signs.ensures.forces;
  looks = looks_wide (g.T.Theory.meaning c.args.theory.now) c.args.atoms.now (HaveSigns c.args.asked.now.formulas.now c.args.asked.now.signs.now) c.args.known.now.signs.items c.take_signs.new.known.signs.items c.in-Wide.chain c.in-None-unsettled.ensures.settled (subst (DecidesKnown (g.T.Theory.meaning c.args.theory.now) c.args.atoms.now c.take_signs.new.known.signs.items) c.in-Wide.is c.in_ok-decide_known.ensures);
}

pub open_after-requires-in-Some-unsettled-clause-asked : goal.open_after-requires-in-Some-unsettled-clause-asked
open_after-requires-in-Some-unsettled-clause-asked g c = subst (λ n. AreAsked n c.args.asked.now.formulas.now c.args.asked.now.signs.now) (sym c.take_signs.ensures.forces.many) c.requires.asked

pub open_after-requires-in-Some-unsettled-clause-unsettled : goal.open_after-requires-in-Some-unsettled-clause-unsettled
open_after-requires-in-Some-unsettled-clause-unsettled g c = c.in-Some-unsettled.ensures.open

pub returns-in-None-open_after-2 : goal.returns-in-None-open_after-2
returns-in-None-open_after-2 g c = record {
  forces = forces_more (HaveSigns c.args.asked.now.formulas.now c.args.asked.now.signs.now) c.args.known.now.signs.items c.take_signs.new.known.signs.items c.open_after-in-Some-unsettled.new.known.signs.items c.take_signs.ensures.forces c.open_after-in-Some-unsettled.ensures.forces;
  looks = λ l has follows. c.in-None-open_after-2.ensures.none (truths_at g.T.Theory.atom_holds c.args.atoms.now l) follows;
}

pub go_on-requires-in-Some-open_after-2 : goal.go_on-requires-in-Some-open_after-2
go_on-requires-in-Some-open_after-2 g c = c.in-Some-open_after-2.ensures.some.0

pub returns : goal.returns
returns g c = looked_next (g.T.Theory.meaning c.args.theory.now) c.args.atoms.now (HaveSigns c.args.asked.now.formulas.now c.args.asked.now.signs.now) c.args.known.now.signs.items c.take_signs.new.known.signs.items c.open_after-in-Some-unsettled.new.known.signs.items c.take_signs.ensures.forces c.open_after-in-Some-unsettled.ensures.forces c.in-Some-unsettled.number c.in-Some-open_after-2.atom true c.go_on-in-Some-open_after-2.result c.in-Some-open_after-2.ensures.some.1 c.in-Some-open_after-2.ensures.some.0 c.go_on-in-Some-open_after-2.ensures
