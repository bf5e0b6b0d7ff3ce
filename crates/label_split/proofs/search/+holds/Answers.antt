use Rattle.std.proofs.Common.{◌≡◌, ◌+◌, ◌≤◌, arith, refl, ap, sym, not, ◌∙◌, subst}
use Rattle.model_tree.specs.Formula.{formula_holds}
use Rattle.label_core.specs.Formula.{plain_formula}
use Rattle.label_core.proofs.Formulas.{not_of, and_of, or_of, weight, parts_weight, part_lighter, no_more, found, more, same, other}
use Rattle.label_split.specs.Known.{truth_at}
use Rattle.label_split.specs.Numbers.{truths_at}
use Rattle.label_split.proofs.Forcing.{holds_inside}
use Rattle.label_split.proofs.search.+holds.Goals as goal

pub holds_of-holds_of-requires : goal.holds_of-holds_of-requires
holds_of-holds_of-requires g t c κs within =
    let before = c.decreases in
    let low : weight (plain_formula c.deref.result.now) + 1 ≡ weight (plain_formula c.args.formula.now) = ap weight (not_of c.args.formula.now c.in-Not.inner c.deref.result.now c.in-Not.is c.deref.ensures) in
    (omega arith, (within.0, (within.1.0, (within.1.1.0, (within.1.1.1, (c.requires.fit, c.requires.kept))))))

pub holds_of-each_holds-requires : goal.holds_of-each_holds-requires
holds_of-each_holds-requires g t c κs within =
    let before = c.decreases in
    let low : parts_weight c.deref-in-And.result.now + 1 ≡ weight (plain_formula c.args.formula.now) = ap weight (and_of c.args.formula.now c.in-And.parts c.deref-in-And.result.now c.in-And.is c.deref-in-And.ensures.value) in
    (omega arith, (within.0, (within.1.0, (within.1.1.0, (within.1.1.1, (c.requires.fit, c.requires.kept))))))

pub holds_of-each_holds-requires-in-Or : goal.holds_of-each_holds-requires-in-Or
holds_of-each_holds-requires-in-Or g t c κs within =
    let before = c.decreases in
    let low : parts_weight c.deref-in-Or.result.now + 1 ≡ weight (plain_formula c.args.formula.now) = ap weight (or_of c.args.formula.now c.in-Or.parts c.deref-in-Or.result.now c.in-Or.is c.deref-in-Or.ensures.value) in
    (omega arith, (within.0, (within.1.0, (within.1.1.0, (within.1.1.1, (c.requires.fit, c.requires.kept))))))

pub holds_of-returns-in-Yes : goal.holds_of-returns-in-Yes
holds_of-returns-in-Yes g t c = sym (ap (λ f. formula_holds (truth_at (truths_at g.T.Theory.atom_holds c.args.atoms.now (g.T.Theory.label_of c.args.value.now))) (plain_formula f)) c.in-Yes.is)

pub holds_of-returns-in-No : goal.holds_of-returns-in-No
holds_of-returns-in-No g t c = sym (ap (λ f. formula_holds (truth_at (truths_at g.T.Theory.atom_holds c.args.atoms.now (g.T.Theory.label_of c.args.value.now))) (plain_formula f)) c.in-No.is)

pub holds_of-returns-in-Not : goal.holds_of-returns-in-Not
holds_of-returns-in-Not g t c = ap not c.holds_of.ensures ∙ ap (formula_holds (truth_at (truths_at g.T.Theory.atom_holds c.args.atoms.now (g.T.Theory.label_of c.args.value.now)))) (not_of c.args.formula.now c.in-Not.inner c.deref.result.now c.in-Not.is c.deref.ensures)

pub holds_of-returns-in-And : goal.holds_of-returns-in-And
holds_of-returns-in-And g t c = c.each_holds.ensures ∙ ap (formula_holds (truth_at (truths_at g.T.Theory.atom_holds c.args.atoms.now (g.T.Theory.label_of c.args.value.now)))) (and_of c.args.formula.now c.in-And.parts c.deref-in-And.result.now c.in-And.is c.deref-in-And.ensures.value)

pub holds_of-returns-in-Or : goal.holds_of-returns-in-Or
holds_of-returns-in-Or g t c = c.each_holds-in-Or.ensures ∙ ap (formula_holds (truth_at (truths_at g.T.Theory.atom_holds c.args.atoms.now (g.T.Theory.label_of c.args.value.now)))) (or_of c.args.formula.now c.in-Or.parts c.deref-in-Or.result.now c.in-Or.is c.deref-in-Or.ensures.value)

pub each_holds-loop-part-init : goal.each_holds-loop-part-init
each_holds-loop-part-init g t c = refl

pub each_holds-offset_bounds-parts-part-index : goal.each_holds-offset_bounds-parts-part-index
each_holds-offset_bounds-parts-part-index g t c = omega arith

pub each_holds-holds_of-requires : goal.each_holds-holds_of-requires
each_holds-holds_of-requires g t c κs within =
    let before = c.decreases in
    let low : weight (plain_formula c.part-item.result) ≤ parts_weight c.args.parts.now = part_lighter c.args.parts.now c.loop-part.part-index c.part-item.result c.loop-part-test.true c.part-item.is in
    (omega arith, (within.0, (within.1.0, (within.1.1.0, (within.1.1.1, (c.requires.fit, c.requires.kept))))))

pub each_holds-loop-part-smaller : goal.each_holds-loop-part-smaller
each_holds-loop-part-smaller g t c = omega arith

pub each_holds-returns-then-holds_of-every : goal.each_holds-returns-then-holds_of-every
each_holds-returns-then-holds_of-every g t c = found (truth_at (truths_at g.T.Theory.atom_holds c.args.atoms.now (g.T.Theory.label_of c.args.value.now))) c.args.every c.args.parts.now c.loop-part.part-index c.part-item.result c.loop-part-test.true c.part-item.is c.holds_of.result c.holds_of.ensures c.loop-part.invariant (other c.holds_of.result c.args.every c.if-holds_of-every.true)

pub each_holds-loop-part-preserved : goal.each_holds-loop-part-preserved
each_holds-loop-part-preserved g t c = more (truth_at (truths_at g.T.Theory.atom_holds c.args.atoms.now (g.T.Theory.label_of c.args.value.now))) c.args.every c.args.parts.now c.loop-part.part-index c.part-item.result c.loop-part-test.true c.part-item.is c.holds_of.result c.holds_of.ensures c.loop-part.invariant (same c.holds_of.result c.args.every c.if-holds_of-every.false)

pub each_holds-returns : goal.each_holds-returns
each_holds-returns g t c = no_more (truth_at (truths_at g.T.Theory.atom_holds c.args.atoms.now (g.T.Theory.label_of c.args.value.now))) c.args.every c.args.parts.now c.loop-part.part-index c.loop-part-test.false c.loop-part.invariant

pub holds_of-holds-requires-clause-atom_fits : goal.holds_of-holds-requires-clause-atom_fits
holds_of-holds-requires-clause-atom_fits g t c = subst (g.T.Theory.atom_fits c.args.theory.now) (sym c.index-atoms-atom.is) (c.requires.fit c.in-Atom.atom c.index-atoms-atom.result c.if-atom-atoms.true)

pub holds_of-holds-requires-clause-value_fits : goal.holds_of-holds-requires-clause-value_fits
holds_of-holds-requires-clause-value_fits g t c = c.requires.kept

pub holds_of-returns-then-atom-atoms : goal.holds_of-returns-then-atom-atoms
holds_of-returns-then-atom-atoms g t c = holds_inside g.T.Theory.atom_holds c.args.atoms.now (g.T.Theory.label_of c.args.value.now) c.args.formula.now c.in-Atom.atom c.index-atoms-atom.result c.holds.result c.in-Atom.is c.if-atom-atoms.true c.index-atoms-atom.is c.holds.ensures

pub holds_of-bounds-atoms-atom : goal.holds_of-bounds-atoms-atom
holds_of-bounds-atoms-atom g t c = c.if-atom-atoms.true

pub holds_of-offset_bounds-atoms-atom : goal.holds_of-offset_bounds-atoms-atom
holds_of-offset_bounds-atoms-atom g t c = omega (arith, c.if-atom-atoms.true)
