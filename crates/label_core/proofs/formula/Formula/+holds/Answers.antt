use Rattle.std.proofs.Common.{◌≡◌, ◌+◌, ◌≤◌, arith, refl, ap, sym, not, ◌∙◌, subst}
use Rattle.model_tree.specs.Formula.{formula_holds, EveryAtom}
use Rattle.label_core.specs.Formula.{plain_formula}
use Rattle.label_core.proofs.Formulas.{not_of, and_of, or_of, weight, parts_weight, part_lighter, no_more, found, more, every_and, every_or, every_not, every_part, same, other}
use Rattle.label_core.proofs.formula.Formula.+holds.Goals as goal

pub holds-holds-requires-clause-atom_fits : goal.holds-holds-requires-clause-atom_fits
holds-holds-requires-clause-atom_fits g t c = subst (λ f. EveryAtom (g.T.Theory.atom_fits c.args.theory.now) (plain_formula f)) c.in-Atom.is c.requires.atoms_fit

pub holds-holds-requires-clause-value_fits : goal.holds-holds-requires-clause-value_fits
holds-holds-requires-clause-value_fits g t c = c.requires.value_fits

pub holds-holds-requires-in-Not : goal.holds-holds-requires-in-Not
holds-holds-requires-in-Not g t c κs within =
    let before = c.decreases in
    let low : weight (plain_formula c.deref.result.now) + 1 ≡ weight (plain_formula c.args.self.now) = ap weight (not_of c.args.self.now c.in-Not.inner c.deref.result.now c.in-Not.is c.deref.ensures) in
    (omega arith, (within.0, (within.1.0, (within.1.1.0, (within.1.1.1, (every_not (g.T.Theory.atom_fits c.args.theory.now) c.args.self.now c.in-Not.inner c.deref.result.now c.in-Not.is c.deref.ensures c.requires.atoms_fit, c.requires.value_fits))))))

pub holds-each_holds-requires : goal.holds-each_holds-requires
holds-each_holds-requires g t c κs within =
    let before = c.decreases in
    let low : parts_weight c.deref-in-And.result.now + 1 ≡ weight (plain_formula c.args.self.now) = ap weight (and_of c.args.self.now c.in-And.parts c.deref-in-And.result.now c.in-And.is c.deref-in-And.ensures.value) in
    (omega arith, (within.0, (within.1.0, (within.1.1.0, (within.1.1.1, (every_and (g.T.Theory.atom_fits c.args.theory.now) c.args.self.now c.in-And.parts c.deref-in-And.result.now c.in-And.is c.deref-in-And.ensures.value c.requires.atoms_fit, c.requires.value_fits))))))

pub holds-each_holds-requires-in-Or : goal.holds-each_holds-requires-in-Or
holds-each_holds-requires-in-Or g t c κs within =
    let before = c.decreases in
    let low : parts_weight c.deref-in-Or.result.now + 1 ≡ weight (plain_formula c.args.self.now) = ap weight (or_of c.args.self.now c.in-Or.parts c.deref-in-Or.result.now c.in-Or.is c.deref-in-Or.ensures.value) in
    (omega arith, (within.0, (within.1.0, (within.1.1.0, (within.1.1.1, (every_or (g.T.Theory.atom_fits c.args.theory.now) c.args.self.now c.in-Or.parts c.deref-in-Or.result.now c.in-Or.is c.deref-in-Or.ensures.value c.requires.atoms_fit, c.requires.value_fits))))))

pub holds-returns-in-Yes : goal.holds-returns-in-Yes
holds-returns-in-Yes g t c = sym (ap (λ f. formula_holds (λ a. g.T.Theory.atom_holds a (g.T.Theory.label_of c.args.value.now)) (plain_formula f)) c.in-Yes.is)

pub holds-returns-in-No : goal.holds-returns-in-No
holds-returns-in-No g t c = sym (ap (λ f. formula_holds (λ a. g.T.Theory.atom_holds a (g.T.Theory.label_of c.args.value.now)) (plain_formula f)) c.in-No.is)

pub holds-returns-in-Atom : goal.holds-returns-in-Atom
holds-returns-in-Atom g t c = c.holds.ensures ∙ sym (ap (λ f. formula_holds (λ a. g.T.Theory.atom_holds a (g.T.Theory.label_of c.args.value.now)) (plain_formula f)) c.in-Atom.is)

pub holds-returns-in-Not : goal.holds-returns-in-Not
holds-returns-in-Not g t c = ap not c.holds-in-Not.ensures ∙ ap (formula_holds (λ a. g.T.Theory.atom_holds a (g.T.Theory.label_of c.args.value.now))) (not_of c.args.self.now c.in-Not.inner c.deref.result.now c.in-Not.is c.deref.ensures)

pub holds-returns-in-And : goal.holds-returns-in-And
holds-returns-in-And g t c = c.each_holds.ensures ∙ ap (formula_holds (λ a. g.T.Theory.atom_holds a (g.T.Theory.label_of c.args.value.now))) (and_of c.args.self.now c.in-And.parts c.deref-in-And.result.now c.in-And.is c.deref-in-And.ensures.value)

pub holds-returns-in-Or : goal.holds-returns-in-Or
holds-returns-in-Or g t c = c.each_holds-in-Or.ensures ∙ ap (formula_holds (λ a. g.T.Theory.atom_holds a (g.T.Theory.label_of c.args.value.now))) (or_of c.args.self.now c.in-Or.parts c.deref-in-Or.result.now c.in-Or.is c.deref-in-Or.ensures.value)

pub each_holds-holds-requires : goal.each_holds-holds-requires
each_holds-holds-requires g t c κs within =
    let before = c.decreases in
    let low : weight (plain_formula c.part-item.result) ≤ parts_weight c.args.parts.now = part_lighter c.args.parts.now c.loop-part.part-index c.part-item.result c.loop-part-test.true c.part-item.is in
    (omega arith, (within.0, (within.1.0, (within.1.1.0, (within.1.1.1, (every_part (g.T.Theory.atom_fits c.args.theory.now) c.args.parts.now c.loop-part.part-index c.part-item.result c.loop-part-test.true c.part-item.is c.requires.atoms_fit, c.requires.value_fits))))))

pub each_holds-loop-part-init : goal.each_holds-loop-part-init
each_holds-loop-part-init g t c = refl

pub each_holds-offset_bounds-parts-part-index : goal.each_holds-offset_bounds-parts-part-index
each_holds-offset_bounds-parts-part-index g t c = omega arith

pub each_holds-loop-part-smaller : goal.each_holds-loop-part-smaller
each_holds-loop-part-smaller g t c = omega arith

pub each_holds-returns-then-holds-every : goal.each_holds-returns-then-holds-every
each_holds-returns-then-holds-every g t c = found (λ a. g.T.Theory.atom_holds a (g.T.Theory.label_of c.args.value.now)) c.args.every c.args.parts.now c.loop-part.part-index c.part-item.result c.loop-part-test.true c.part-item.is c.holds.result c.holds.ensures c.loop-part.invariant (other c.holds.result c.args.every c.if-holds-every.true)

pub each_holds-loop-part-preserved : goal.each_holds-loop-part-preserved
each_holds-loop-part-preserved g t c = more (λ a. g.T.Theory.atom_holds a (g.T.Theory.label_of c.args.value.now)) c.args.every c.args.parts.now c.loop-part.part-index c.part-item.result c.loop-part-test.true c.part-item.is c.holds.result c.holds.ensures c.loop-part.invariant (same c.holds.result c.args.every c.if-holds-every.false)

pub each_holds-returns : goal.each_holds-returns
each_holds-returns g t c = no_more (λ a. g.T.Theory.atom_holds a (g.T.Theory.label_of c.args.value.now)) c.args.every c.args.parts.now c.loop-part.part-index c.loop-part-test.false c.loop-part.invariant
