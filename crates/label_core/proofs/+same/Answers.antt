use Rattle.std.proofs.Common.{◌≡◌, ◌+◌, ◌≤◌, rules, arith, refl, ap, sym, ◌∙◌}
use Rattle.label_core.specs.Formula.{plain_formula}
use Rattle.label_core.specs.SameFormula.{same_formula}
use Rattle.label_core.proofs.Formulas.{not_of, and_of, or_of, weight, parts_weight, part_lighter}
use Rattle.label_core.proofs.SameParts.{same_and, same_or, same_many, same_more, same_not, same_all}
use Rattle.label_core.proofs.+same.Goals as goal

pub formula::Formula::is_same-is_same-requires : goal.formula::Formula::is_same-is_same-requires
formula::Formula::is_same-is_same-requires g t c κs within =
    let before = c.decreases in
    let low : weight (plain_formula c.deref.result.now) + 1 ≡ weight (plain_formula c.args.self.now) = ap weight (not_of c.args.self.now c.in-Not.inner c.deref.result.now c.in-Not.is c.deref.ensures) in
    (omega arith, search rules)

pub formula::Formula::is_same-are_same-requires : goal.formula::Formula::is_same-are_same-requires
formula::Formula::is_same-are_same-requires g t c κs within =
    let before = c.decreases in
    let low : parts_weight c.deref-in-And-other.result.now + 1 ≡ weight (plain_formula c.args.self.now) = ap weight (and_of c.args.self.now c.in-And.parts c.deref-in-And-other.result.now c.in-And.is c.deref-in-And-other.ensures.value) in
    (omega arith, search rules)

pub formula::Formula::is_same-are_same-requires-in-Or-other : goal.formula::Formula::is_same-are_same-requires-in-Or-other
formula::Formula::is_same-are_same-requires-in-Or-other g t c κs within =
    let before = c.decreases in
    let low : parts_weight c.deref-in-Or-other.result.now + 1 ≡ weight (plain_formula c.args.self.now) = ap weight (or_of c.args.self.now c.in-Or.parts c.deref-in-Or-other.result.now c.in-Or.is c.deref-in-Or-other.ensures.value) in
    (omega arith, search rules)

pub formula::Formula::is_same-returns-in-Yes-matches : goal.formula::Formula::is_same-returns-in-Yes-matches
formula::Formula::is_same-returns-in-Yes-matches g t c = λ i. same_formula g.A.PartialEq.eq (plain_formula (sym c.in-Yes.is i)) (plain_formula (sym c.in-Yes-matches.is i))

pub formula::Formula::is_same-returns-in-No-matches : goal.formula::Formula::is_same-returns-in-No-matches
formula::Formula::is_same-returns-in-No-matches g t c = λ i. same_formula g.A.PartialEq.eq (plain_formula (sym c.in-No.is i)) (plain_formula (sym c.in-No-matches.is i))

pub formula::Formula::is_same-returns-in-Atom-other : goal.formula::Formula::is_same-returns-in-Atom-other
formula::Formula::is_same-returns-in-Atom-other g t c = c.eq.ensures ∙ (λ i. same_formula g.A.PartialEq.eq (plain_formula (sym c.in-Atom.is i)) (plain_formula (sym c.in-Atom-other.is i)))

pub formula::Formula::is_same-returns-in-Not-other : goal.formula::Formula::is_same-returns-in-Not-other
formula::Formula::is_same-returns-in-Not-other g t c =
    c.is_same.ensures ∙ (λ i. same_formula g.A.PartialEq.eq (not_of c.args.self.now c.in-Not.inner c.deref.result.now c.in-Not.is c.deref.ensures i) (not_of c.args.other.now c.in-Not-other.other c.deref-in-Not-other.result.now c.in-Not-other.is c.deref-in-Not-other.ensures i))

pub formula::Formula::is_same-returns-in-And-other : goal.formula::Formula::is_same-returns-in-And-other
formula::Formula::is_same-returns-in-And-other g t c =
    c.are_same.ensures ∙ same_and g.A.PartialEq.eq c.args.self.now c.args.other.now c.in-And.parts c.in-And-other.others c.deref-in-And-other.result.now c.deref-in-And-other-2.result.now c.in-And.is c.in-And-other.is c.deref-in-And-other.ensures.value c.deref-in-And-other-2.ensures.value

pub formula::Formula::is_same-returns-in-Or-other : goal.formula::Formula::is_same-returns-in-Or-other
formula::Formula::is_same-returns-in-Or-other g t c =
    c.are_same-in-Or-other.ensures ∙ same_or g.A.PartialEq.eq c.args.self.now c.args.other.now c.in-Or.parts c.in-Or-other.others c.deref-in-Or-other.result.now c.deref-in-Or-other-2.result.now c.in-Or.is c.in-Or-other.is c.deref-in-Or-other.ensures.value c.deref-in-Or-other-2.ensures.value

pub same::are_same-returns-then-parts-others : goal.same::are_same-returns-then-parts-others
same::are_same-returns-then-parts-others g t c = sym (same_many g.A.PartialEq.eq c.args.parts.now c.args.others.now c.if-parts-others.true)

pub same::are_same-loop-i-init : goal.same::are_same-loop-i-init
same::are_same-loop-i-init g t c = refl

pub same::are_same-offset_bounds-parts-i : goal.same::are_same-offset_bounds-parts-i
same::are_same-offset_bounds-parts-i g t c = omega arith

pub same::are_same-bounds-parts-i : goal.same::are_same-bounds-parts-i
same::are_same-bounds-parts-i g t c = omega arith

pub same::are_same-offset_bounds-others-i : goal.same::are_same-offset_bounds-others-i
same::are_same-offset_bounds-others-i g t c = omega arith

pub same::are_same-bounds-others-i : goal.same::are_same-bounds-others-i
same::are_same-bounds-others-i g t c = omega arith

pub same::are_same-is_same-requires : goal.same::are_same-is_same-requires
same::are_same-is_same-requires g t c κs within =
    let before = c.decreases in
    let low : weight (plain_formula c.index-parts-i.result) ≤ parts_weight c.args.parts.now = part_lighter c.args.parts.now c.loop-i.i c.index-parts-i.result c.loop-i-test.true c.index-parts-i.is in
    (omega arith, search rules)

pub same::are_same-returns-then-not-is_same : goal.same::are_same-returns-then-not-is_same
same::are_same-returns-then-not-is_same g t c = sym (same_not g.A.PartialEq.eq c.args.parts.now c.args.others.now c.loop-i.i c.index-parts-i.result c.index-others-i.result c.loop-i-test.true (omega arith) c.index-parts-i.is c.index-others-i.is (sym c.is_same.ensures ∙ c.if-not-is_same.true) c.loop-i.invariant)

pub same::are_same-loop-i-smaller : goal.same::are_same-loop-i-smaller
same::are_same-loop-i-smaller g t c = omega arith

pub same::are_same-loop-i-preserved : goal.same::are_same-loop-i-preserved
same::are_same-loop-i-preserved g t c = same_more g.A.PartialEq.eq c.args.parts.now c.args.others.now c.loop-i.i c.index-parts-i.result c.index-others-i.result c.loop-i-test.true (omega arith) c.index-parts-i.is c.index-others-i.is (sym c.is_same.ensures ∙ c.if-not-is_same.false) c.loop-i.invariant

pub same::are_same-returns : goal.same::are_same-returns
same::are_same-returns g t c = sym (same_all g.A.PartialEq.eq c.args.parts.now c.args.others.now c.loop-i.i c.loop-i-test.false (omega arith) c.loop-i.invariant)
