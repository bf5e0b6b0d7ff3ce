use Rattle.std.proofs.Common.{◌≡◌, ◌+◌, ◌≤◌, arith, ap, sym, subst, ◌∙◌}
use Rattle.label_core.specs.Formula.{plain_formula}
use Rattle.label_core.proofs.Formulas.{not_of, and_of, or_of, weight, parts_weight, part_lighter, same, other}
use Rattle.label_split.specs.Known.{known_at, formula_known}
use Rattle.label_split.proofs.Settled.{SayAll, start, more_open, more_told, told_other, ended_open, ended_told}
use Rattle.label_split.proofs.known.+settled.Goals.{settled_each-in-None, settled_each-in-Some+else-holds-every}
use Rattle.label_split.proofs.known.+settled.Goals as goal

pub settled-settled-requires : goal.settled-settled-requires
settled-settled-requires t c =
    let before = c.decreases in
    let low : weight (plain_formula c.deref.result.now) + 1 ≡ weight (plain_formula c.args.formula.now) = ap weight (not_of c.args.formula.now c.in-Not.inner c.deref.result.now c.in-Not.is c.deref.ensures) in
    (omega arith, tt)

pub settled-settled_each-requires : goal.settled-settled_each-requires
settled-settled_each-requires t c =
    let before = c.decreases in
    let low : parts_weight c.deref-in-And.result.now + 1 ≡ weight (plain_formula c.args.formula.now) = ap weight (and_of c.args.formula.now c.in-And.parts c.deref-in-And.result.now c.in-And.is c.deref-in-And.ensures.value) in
    (omega arith, tt)

pub settled-settled_each-requires-in-Or : goal.settled-settled_each-requires-in-Or
settled-settled_each-requires-in-Or t c =
    let before = c.decreases in
    let low : parts_weight c.deref-in-Or.result.now + 1 ≡ weight (plain_formula c.args.formula.now) = ap weight (or_of c.args.formula.now c.in-Or.parts c.deref-in-Or.result.now c.in-Or.is c.deref-in-Or.ensures.value) in
    (omega arith, tt)

pub settled_each-settled-requires : goal.settled_each-settled-requires
settled_each-settled-requires t c =
    let before = c.decreases in
    let low : weight (plain_formula c.part-item.result) ≤ parts_weight c.args.parts.now = part_lighter c.args.parts.now c.loop-part.part-index c.part-item.result c.loop-part-test.true c.part-item.is in
    (omega arith, tt)

pub settled-returns-in-And : goal.settled-returns-in-And
settled-returns-in-And t c = c.settled_each.ensures ∙ ap (formula_known (known_at c.args.known.now.signs.items)) (and_of c.args.formula.now c.in-And.parts c.deref-in-And.result.now c.in-And.is c.deref-in-And.ensures.value)

pub settled-returns-in-Or : goal.settled-returns-in-Or
settled-returns-in-Or t c = c.settled_each-in-Or.ensures ∙ ap (formula_known (known_at c.args.known.now.signs.items)) (or_of c.args.formula.now c.in-Or.parts c.deref-in-Or.result.now c.in-Or.is c.deref-in-Or.ensures.value)

pub settled_each-loop-part-init : goal.settled_each-loop-part-init
settled_each-loop-part-init t c = start (known_at c.args.known.now.signs.items) c.args.every c.args.parts.now

pub settled_each-offset_bounds-parts-part-index : goal.settled_each-offset_bounds-parts-part-index
settled_each-offset_bounds-parts-part-index t c = omega arith

pub settled_each-loop-part-smaller : goal.settled_each-loop-part-smaller
settled_each-loop-part-smaller t c = omega arith

pub settled_each-loop-part-preserved : goal.settled_each-loop-part-preserved
settled_each-loop-part-preserved t c = elim c.match-settled.branch [
  | settled_each-in-None w ↦ subst (λ o. SayAll (known_at c.args.known.now.signs.items) c.args.every o c.args.parts.now (c.loop-part.part-index + 1)) (sym w.open-is) (more_open (known_at c.args.known.now.signs.items) c.args.every c.loop-part.open c.args.parts.now c.loop-part.part-index c.part-item.result c.loop-part-test.true c.part-item.is c.loop-part.invariant (sym c.settled.ensures ∙ w.in-None.is))
  | settled_each-in-Some+else-holds-every w ↦ subst (λ o. SayAll (known_at c.args.known.now.signs.items) c.args.every o c.args.parts.now (c.loop-part.part-index + 1)) (sym w.open-is) (more_told (known_at c.args.known.now.signs.items) c.args.every c.loop-part.open c.args.parts.now c.loop-part.part-index c.part-item.result c.loop-part-test.true c.part-item.is c.loop-part.invariant w.in-Some.holds (sym c.settled.ensures ∙ w.in-Some.is) (same w.in-Some.holds c.args.every w.if-holds-every.false))
]

pub settled_each-returns-then-holds-every : goal.settled_each-returns-then-holds-every
settled_each-returns-then-holds-every t c = told_other (known_at c.args.known.now.signs.items) c.args.every c.loop-part.open c.args.parts.now c.loop-part.part-index c.part-item.result c.loop-part-test.true c.part-item.is c.loop-part.invariant c.in-Some.holds (sym c.settled.ensures ∙ c.in-Some.is) (other c.in-Some.holds c.args.every c.if-holds-every.true)

pub settled_each-returns-then-open : goal.settled_each-returns-then-open
settled_each-returns-then-open t c = ended_open (known_at c.args.known.now.signs.items) c.args.every c.loop-part.open c.args.parts.now c.loop-part.part-index c.loop-part-test.false c.if-open.true c.loop-part.invariant

pub settled_each-returns-else-open : goal.settled_each-returns-else-open
settled_each-returns-else-open t c = ended_told (known_at c.args.known.now.signs.items) c.args.every c.loop-part.open c.args.parts.now c.loop-part.part-index c.loop-part-test.false c.if-open.false c.loop-part.invariant
