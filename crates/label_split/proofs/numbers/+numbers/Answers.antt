use Rattle.std.proofs.Common.{◌≡◌, ◌+◌, ◌≤◌, true, false, rules, arith, take_all, ap, sym, subst}
use Rattle.std.specs.Prelude.{IfOk}
use Rattle.label_core.specs.Formula.{plain_formula}
use Rattle.label_core.proofs.Formulas.{not_of, and_of, or_of, weight, parts_weight, part_lighter}
use Rattle.label_split.specs.Numbers.{IsNumbered, EachNumbered}
use Rattle.label_split.proofs.Numbered.{yes_numbered, no_numbered, not_numbered, joined_numbered, none_numbered, one_numbered}
use Rattle.label_split.proofs.numbers.+numbers.Goals as goal

pub number_atoms-number_atoms-requires : goal.number_atoms-number_atoms-requires
number_atoms-number_atoms-requires g t c κs within =
    let before = c.decreases in
    let low : weight (plain_formula c.deref.result.now) + 1 ≡ weight (plain_formula c.args.formula.now) = ap weight (not_of c.args.formula.now c.in-Not.inner c.deref.result.now c.in-Not.is c.deref.ensures) in
    (omega arith, search rules)

pub number_atoms-number_each-requires : goal.number_atoms-number_each-requires
number_atoms-number_each-requires g t c κs within =
    let before = c.decreases in
    let low : parts_weight c.deref-in-And.result.now + 1 ≡ weight (plain_formula c.args.formula.now) = ap weight (and_of c.args.formula.now c.in-And.parts c.deref-in-And.result.now c.in-And.is c.deref-in-And.ensures.value) in
    (omega arith, search rules)

pub number_atoms-number_each-requires-in-Or : goal.number_atoms-number_each-requires-in-Or
number_atoms-number_each-requires-in-Or g t c κs within =
    let before = c.decreases in
    let low : parts_weight c.deref-in-Or.result.now + 1 ≡ weight (plain_formula c.args.formula.now) = ap weight (or_of c.args.formula.now c.in-Or.parts c.deref-in-Or.result.now c.in-Or.is c.deref-in-Or.ensures.value) in
    (omega arith, search rules)

pub number_atoms-returns-in-Yes : goal.number_atoms-returns-in-Yes
number_atoms-returns-in-Yes g t c = yes_numbered g.A.PartialEq.eq c.args.atoms.now.keys c.args.formula.now c.in-Yes.is

pub number_atoms-returns-in-No : goal.number_atoms-returns-in-No
number_atoms-returns-in-No g t c = no_numbered g.A.PartialEq.eq c.args.atoms.now.keys c.args.formula.now c.in-No.is

pub number_atoms-returns-in-Atom : goal.number_atoms-returns-in-Atom
number_atoms-returns-in-Atom g t c = subst (λ f. IfOk c.number_atom.result (IsNumbered g.A.PartialEq.eq c.args.atoms.now.keys c.number_atom.new.atoms.keys (plain_formula f))) (sym c.in-Atom.is) c.number_atom.ensures

pub number_atoms-returns-in_ok-number_atoms-in-Not : goal.number_atoms-returns-in_ok-number_atoms-in-Not
number_atoms-returns-in_ok-number_atoms-in-Not g t c = not_numbered g.A.PartialEq.eq c.args.atoms.now.keys c.number_atoms.new.atoms.keys (plain_formula c.deref.result.now) (plain_formula c.args.formula.now) (not_of c.args.formula.now c.in-Not.inner c.deref.result.now c.in-Not.is c.deref.ensures) c.in_ok-number_atoms-in-Not.field-0 c.in_ok-number_atoms-in-Not.ensures c.negation.result c.negation.ensures

pub number_atoms-returns-in-And : goal.number_atoms-returns-in-And
number_atoms-returns-in-And g t c = joined_numbered g.A.PartialEq.eq (λ all. all.items) true c.args.atoms.now.keys c.number_each.new.atoms.keys c.deref-in-And.result.now (plain_formula c.args.formula.now) (and_of c.args.formula.now c.in-And.parts c.deref-in-And.result.now c.in-And.is c.deref-in-And.ensures.value) c.number_each.result c.number_each.ensures c.joined.result c.joined.ensures

pub number_atoms-returns-in-Or : goal.number_atoms-returns-in-Or
number_atoms-returns-in-Or g t c = joined_numbered g.A.PartialEq.eq (λ all. all.items) false c.args.atoms.now.keys c.number_each-in-Or.new.atoms.keys c.deref-in-Or.result.now (plain_formula c.args.formula.now) (or_of c.args.formula.now c.in-Or.parts c.deref-in-Or.result.now c.in-Or.is c.deref-in-Or.ensures.value) c.number_each-in-Or.result c.number_each-in-Or.ensures c.joined-in-Or.result c.joined-in-Or.ensures

pub number_each-number_atoms-requires : goal.number_each-number_atoms-requires
number_each-number_atoms-requires g t c κs within =
    let before = c.decreases in
    let low : weight (plain_formula c.formula-item.result) ≤ parts_weight c.args.formulas.now = part_lighter c.args.formulas.now c.loop-formula.formula-index c.formula-item.result c.loop-formula-test.true c.formula-item.is in
    (omega arith, search rules)

pub number_each-offset_bounds-formulas-formula-index : goal.number_each-offset_bounds-formulas-formula-index
number_each-offset_bounds-formulas-formula-index g t c = omega arith

pub number_each-loop-formula-init : goal.number_each-loop-formula-init
number_each-loop-formula-init g t c = none_numbered g.A.PartialEq.eq c.args.atoms.now.keys c.new-made.result.items c.new-made.ensures.items

pub number_each-loop-formula-preserved : goal.number_each-loop-formula-preserved
number_each-loop-formula-preserved g t c = one_numbered g.A.PartialEq.eq c.args.atoms.now.keys c.loop-formula.atoms.keys c.number_atoms.new.atoms.keys c.args.formulas.now c.loop-formula.formula-index c.formula-item.result c.loop-formula-test.true c.formula-item.is c.loop-formula.made.items c.push.new.self.items c.in_ok-number_atoms.field-0 c.in_ok-push.ensures.items c.loop-formula.invariant c.in_ok-number_atoms.ensures

pub number_each-returns : goal.number_each-returns
number_each-returns g t c = subst (λ fs. EachNumbered g.A.PartialEq.eq c.args.atoms.now.keys c.loop-formula.atoms.keys fs c.loop-formula.made.items) (take_all c.loop-formula.formula-index c.args.formulas.now c.loop-formula-test.false) c.loop-formula.invariant
