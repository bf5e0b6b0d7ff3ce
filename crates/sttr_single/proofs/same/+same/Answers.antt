use Rattle.std.proofs.Common.{sym, ◌∙◌, eqb-true, eq-eqb}
use Rattle.sttr_single.proofs.Alike.{same_many, same_by_parts}
use Rattle.sttr_single.proofs.same.+same.Goals.{is_same-then-constructor-other, is_same-else-constructor-other}
use Rattle.sttr_single.proofs.same.+same.Goals as goal

pub are_same-returns-then-parts-others : goal.are_same-returns-then-parts-others
are_same-returns-then-parts-others g t c = sym (same_many g.M.PartialEq.eq c.args.parts.now c.args.others.now c.if-parts-others.true)

pub is_same-returns-then-eq : goal.is_same-returns-then-eq
is_same-returns-then-eq g t c = elim c.if-constructor-other.branch [
  | is_same-then-constructor-other w ↦ (
      c.are_same.ensures
      ∙ same_by_parts g.M.PartialEq.eq c.args.first.now c.args.second.now c.in-Node.constructor c.in-Node-second.other c.in-Node.map c.in-Node-second.made c.in-Node.parts c.in-Node-second.others c.deref.result.now c.deref-then-eq.result.now c.in-Node.is c.in-Node-second.is c.deref.ensures.value c.deref-then-eq.ensures.value
      (eq-eqb c.in-Node.constructor c.in-Node-second.other w.if-constructor-other.true) (sym w.eq.ensures ∙ sym w.value-is ∙ c.if-eq.true))
  | is_same-else-constructor-other w ↦ absurd (w.if-constructor-other.false (eqb-true c.in-Node.constructor c.in-Node-second.other (sym w.value-is ∙ c.if-eq.true)))
]
