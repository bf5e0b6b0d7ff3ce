use Rattle.std.proofs.Common.{map, take, take_all, sym, subst, ◌∙◌}
use Rattle.model_sttr.specs.Terms.{build}
use Rattle.sttr_core.specs.Terms.{plain_term, plain_parts}
use Rattle.sttr_core.specs.declared.term.Term.TheBlock.{hidden-the_row-Term-0}
use Rattle.sttr_core.proofs.Parts.{parts_are, parts_of}
use Rattle.sttr_preimage.specs.Called.{IsTermCopy}
use Rattle.sttr_preimage.proofs.Copying.{take_mapped, push_mapped}
use Rattle.sttr_preimage.proofs.Renaming.{AreTermCopies, copies_more, copy_node, out_node}
use Rattle.sttr_preimage.proofs.terms.+copied.Goals as goal

pub parts-preserved : goal.parts-preserved
parts-preserved g t c =
    let T = g.T in
    copies_more T.Labels.make (T.Theory.meaning c.args.theory.now).has T.Map.PartialEq.eq (map plain_term (take c.parts.part-index c.deref-part-items.result.now)) (map plain_term c.parts.made.items) (map plain_term (take _ c.deref-part-items.result.now)) (map plain_term c.push.new.self.items)
    (plain_term c.part-item.result) (plain_term c.in_ok-copied-in-Node.field-0) c.parts.invariant c.in_ok-copied-in-Node.ensures
    (take_mapped plain_term c.deref-part-items.result.now c.parts.part-index c.part-item.result c.parts-test.true c.part-item.is)
    (push_mapped plain_term c.parts.made.items c.push.new.self.items c.in_ok-copied-in-Node.field-0 c.in_ok-push-in-Node.ensures.items)

pub returns-in_ok-map-in-Node : goal.returns-in_ok-map-in-Node
returns-in_ok-map-in-Node g t c =
    let T = g.T in
    let make = T.Labels.make in
    let D = (T.Theory.meaning c.args.theory.now).has in
    let eq = T.Map.PartialEq.eq in
    let old = c.in-Node.map in
    let new = c.in_ok-map-in-Node.map in
    let same = c.in_ok-map-in-Node.ensures in
    let whole = take_all c.parts.part-index c.deref-part-items.result.now c.parts-test.false ∙ c.deref-part-items.ensures.value in
    let copies = subst (λ ps. AreTermCopies make D eq (map plain_term ps) (map plain_term c.parts.made.items)) whole c.parts.invariant in
    let is = copy_node make D eq c.in-Node.constructor old new (map plain_term c.in-Node.parts.items) (map plain_term c.parts.made.items) (λ l. g.met.T.Labels.equal_maps new old l same) (g.met.T.Map.Eq.laws.symm old new ∙ same) copies in
    subst (λ t. IsTermCopy make D eq t (build c.in-Node.constructor new (plain_parts (hidden-the_row-Term-0 g.row.T-Map.Denot c.parts.made)))) (sym (out_node c.args.term.now c.in-Node.constructor old c.in-Node.parts c.in-Node.is))
    (subst (λ ps. IsTermCopy make D eq (build c.in-Node.constructor old (parts_of (map plain_term c.in-Node.parts.items))) (build c.in-Node.constructor new ps)) (sym (parts_are c.parts.made)) is)
