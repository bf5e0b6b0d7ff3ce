use Rattle.std.proofs.Common.{◌∙◌, ◌-◌, sym, ap, get_or, false, arith}
use Rattle.label_split.specs.Known.{holds_at}
use Rattle.label_split.specs.Numbers.{truths_at}
use Rattle.label_split.proofs.Forcing.{is_wrong}
use Rattle.label_split.proofs.Truths.{signs_before, not_other}
use Rattle.label_split.proofs.search.wrong.Goals as goal

pub loop-i-preserved : goal.loop-i-preserved
loop-i-preserved g c =
    signs_before (truths_at g.T.Theory.atom_holds c.args.atoms.now (g.T.Theory.label_of c.args.value.now)) c.args.asked.now.formulas.now c.args.asked.now.signs.now (c.loop-i.i - 1) c.loop-i.i c.index-asked-i.result (omega (arith, c.loop-i-test.true)) c.loop-i.auto.i c.requires.asked.lengths c.index-asked-i.is
    (ap (holds_at (truths_at g.T.Theory.atom_holds c.args.atoms.now (g.T.Theory.label_of c.args.value.now))) c.index-asked-i.is ∙ sym c.holds_of.ensures ∙ not_other c.holds_of.result (get_or c.args.asked.now.signs.now (c.loop-i.i - 1) false) c.if-holds_of-asked.false)
    c.loop-i.invariant

pub holds_of-requires-clause-fit : goal.holds_of-requires-clause-fit
holds_of-requires-clause-fit g c = c.requires.fit

pub holds_of-requires-clause-kept : goal.holds_of-requires-clause-kept
holds_of-requires-clause-kept g c = c.requires.kept

pub returns-then-holds_of-asked-clause-wrong : goal.returns-then-holds_of-asked-clause-wrong
returns-then-holds_of-asked-clause-wrong g c = is_wrong c.args.asked.now.formulas.now c.args.asked.now.signs.now (truths_at g.T.Theory.atom_holds c.args.atoms.now (g.T.Theory.label_of c.args.value.now)) (c.loop-i.i - 1) c.index-asked-i.result c.holds_of.result (omega (arith, c.loop-i-test.true, c.loop-i.auto.i)) c.index-asked-i.is (c.holds_of.ensures ∙ ap (holds_at (truths_at g.T.Theory.atom_holds c.args.atoms.now (g.T.Theory.label_of c.args.value.now))) (sym c.index-asked-i.is)) c.if-holds_of-asked.true

pub overflow_step-i : goal.overflow_step-i
overflow_step-i g c = omega (arith, c.loop-i-test.true)

pub offset_bounds-asked-i : goal.offset_bounds-asked-i
offset_bounds-asked-i g c = omega arith

pub bounds-asked-i : goal.bounds-asked-i
bounds-asked-i g c = omega (arith, c.loop-i-test.true, c.loop-i.auto.i)

pub bounds-asked-i-in-loop-i : goal.bounds-asked-i-in-loop-i
bounds-asked-i-in-loop-i g c = omega (arith, c.loop-i-test.true, c.loop-i.auto.i, c.requires.asked.lengths)

pub loop-i-smaller : goal.loop-i-smaller
loop-i-smaller g c = omega (arith, c.loop-i-test.true)
