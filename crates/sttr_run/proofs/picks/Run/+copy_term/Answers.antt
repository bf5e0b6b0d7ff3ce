use Rattle.std.proofs.Common.{◌+◌, take, map, subst, sym, ◌∙◌, arith}
use Rattle.std.proofs.lemmas.List.{take_all}
use Rattle.sttr_run.specs.Drafts.{AllCopies}
use Rattle.sttr_run.specs.Plain.{plain_way_term}
use Rattle.sttr_run.proofs.Members.{taken}
use Rattle.sttr_run.proofs.Copies.{copied_more, node_copied}
use Rattle.sttr_run.proofs.picks.Run.+copy_term.Goals as goal

pub parts-preserved : goal.parts-preserved
parts-preserved g t c =
    subst (λ ws. AllCopies g.T.Map.PartialEq.eq (map plain_way_term ws) (map plain_way_term (take (c.parts.part-index + 1) c.deref-part-items.result.now))) (sym c.in_ok-push-in-Node.ensures.items)
    (copied_more g.T.Map.PartialEq.eq c.parts.copies.items c.deref-part-items.result.now c.parts.part-index c.in_ok-copy_term-in-Node.field-0 c.part-item.result (taken c.deref-part-items.result.now c.parts.part-index c.part-item.result c.parts-test.true c.part-item.is) c.parts.invariant c.in_ok-copy_term-in-Node.ensures)

pub returns-after-parts : goal.returns-after-parts
returns-after-parts g t c =
    node_copied g.T.Map.PartialEq.eq c.args.term.now c.in-Node.constructor c.in-Node.map c.in_ok-map-in-Node.map c.in-Node.parts c.parts.copies c.in-Node.is c.in_ok-map-in-Node.ensures
    (subst (λ vs. AllCopies g.T.Map.PartialEq.eq (map plain_way_term c.parts.copies.items) (map plain_way_term vs)) (take_all c.parts.part-index c.deref-part-items.result.now (omega (arith, c.parts-test.false)) ∙ c.deref-part-items.ensures.value) c.parts.invariant)
