use Rattle.std.proofs.Common.{◌≡◌, ◌∙◌, not}
use Rattle.label_split.specs.Known.{joined, holds_at}
use Rattle.label_split.proofs.Truths.{same_bools, other_bools}
use Rattle.label_split.proofs.Forcing.{forces_none, forces_more, forces_by, each_of_joined, only_of_joined, forces_not, forces_and, forces_or}
use Rattle.std.proofs.Common.{arith}
use Rattle.label_split.proofs.force.+force.Goals as goal

pub force_parts-each-preserved : goal.force_parts-each-preserved
force_parts-each-preserved t c =
    forces_more (λ truths. joined c.args.value truths c.args.parts.now ≡ c.args.holds) c.args.known.now.signs.items c.each.known.signs.items c.force.new.known.signs.items c.each.invariant
    (forces_by (λ truths. joined c.args.value truths c.args.parts.now ≡ c.args.holds) (λ truths. holds_at truths c.part-item.result ≡ c.args.value) c.each.known.signs.items c.force.new.known.signs.items
    (λ truths e follows. each_of_joined c.args.value truths c.args.parts.now c.each.part-index c.part-item.result c.each-test.true c.part-item.is (e ∙ same_bools c.args.holds c.args.value c.if-holds-value.true))
    c.force.ensures)

pub force_parts-returns-in-Some : goal.force_parts-returns-in-Some
force_parts-returns-in-Some t c =
    forces_by (λ truths. joined c.args.value truths c.args.parts.now ≡ c.args.holds) (λ truths. holds_at truths c.index-parts-number.result ≡ not c.args.value) c.args.known.now.signs.items c.force-in-Some.new.known.signs.items
    (λ truths e follows. only_of_joined c.args.value c.args.holds truths c.args.known.now.signs.items c.args.parts.now c.in-Some.number c.index-parts-number.result (c.in-Some.ensures {u = tt}) c.index-parts-number.is (other_bools c.args.holds c.args.value c.if-holds-value.false) follows e)
    c.force-in-Some.ensures

pub force-returns-in-Not : goal.force-returns-in-Not
force-returns-in-Not t c = forces_not c.args.holds c.args.formula.now c.in-Not.inner c.deref.result.now c.in-Not.is c.deref.ensures c.args.known.now.signs.items c.force.new.known.signs.items c.force.ensures

pub force-returns-in-And : goal.force-returns-in-And
force-returns-in-And t c = forces_and c.args.holds c.args.formula.now c.in-And.parts c.deref-in-And.result.now c.in-And.is c.deref-in-And.ensures.value c.args.known.now.signs.items c.force_parts.new.known.signs.items c.force_parts.ensures

pub force-returns-in-Or : goal.force-returns-in-Or
force-returns-in-Or t c = forces_or c.args.holds c.args.formula.now c.in-Or.parts c.deref-in-Or.result.now c.in-Or.is c.deref-in-Or.ensures.value c.args.known.now.signs.items c.force_parts-in-Or.new.known.signs.items c.force_parts-in-Or.ensures

pub force-returns-in-Yes : goal.force-returns-in-Yes
force-returns-in-Yes t c = forces_none (λ truths. holds_at truths c.args.formula.now ≡ c.args.holds) c.args.known.now.signs.items

pub force-returns-in-No : goal.force-returns-in-No
force-returns-in-No t c = forces_none (λ truths. holds_at truths c.args.formula.now ≡ c.args.holds) c.args.known.now.signs.items

pub force_parts-each-init : goal.force_parts-each-init
force_parts-each-init t c = forces_none (λ truths. joined c.args.value truths c.args.parts.now ≡ c.args.holds) c.args.known.now.signs.items

pub force_parts-returns-after-each : goal.force_parts-returns-after-each
force_parts-returns-after-each t c = c.each.invariant

pub force_parts-returns-in_default : goal.force_parts-returns-in_default
force_parts-returns-in_default t c = forces_none (λ truths. joined c.args.value truths c.args.parts.now ≡ c.args.holds) c.args.known.now.signs.items

pub force_parts-offset_bounds-parts-part-index : goal.force_parts-offset_bounds-parts-part-index
force_parts-offset_bounds-parts-part-index t c = omega arith

pub force_parts-offset_bounds-parts-number : goal.force_parts-offset_bounds-parts-number
force_parts-offset_bounds-parts-number t c = omega (arith, (c.in-Some.ensures {u = tt}).low)

pub force_parts-bounds-parts-number : goal.force_parts-bounds-parts-number
force_parts-bounds-parts-number t c = (c.in-Some.ensures {u = tt}).low

pub force_parts-each-smaller : goal.force_parts-each-smaller
force_parts-each-smaller t c = omega arith
