use Rattle.std.proofs.Common.{map, take, take_all, sym, subst, ap, ◌∙◌}
use Rattle.model_sttr.specs.Terms.{build, on}
use Rattle.model_sttr.specs.Transducer.{identity, run}
use Rattle.sttr_core.specs.Terms.{plain_term, plain_parts}
use Rattle.sttr_core.specs.declared.term.Term.TheBlock.{hidden-the_row-Term-0}
use Rattle.sttr_core.proofs.Parts.{parts_are, parts_of}
use Rattle.sttr_preimage.specs.Called.{called_in, IsOwnTerm}
use Rattle.sttr_preimage.proofs.Copying.{take_mapped, push_mapped}
use Rattle.sttr_preimage.proofs.Renaming.{AreOwnTerms, own_none, own_more, own_node, own_same, own_state, out_node}
use Rattle.sttr_preimage.proofs.terms.+over_children.Goals as goal

pub parts-init : goal.parts-init
parts-init g t c = own_none g.T.Labels.make (g.T.Theory.meaning c.args.theory.now).has g.T.Map.PartialEq.eq (called_in c.args.called.now.keys) (map plain_term c.new-made.result.items) (ap (map plain_term) c.new-made.ensures.items)

pub parts-preserved : goal.parts-preserved
parts-preserved g t c =
    let T = g.T in
    own_more T.Labels.make (T.Theory.meaning c.args.theory.now).has T.Map.PartialEq.eq (called_in c.args.called.now.keys) (called_in c.parts.called.keys) (called_in c.over_children.new.called.keys) (map plain_term (take c.parts.part-index c.deref-part-items.result.now)) (map plain_term (take _ c.deref-part-items.result.now))
    (map plain_term c.parts.made.items) (map plain_term c.push.new.self.items) (plain_term c.part-item.result) (plain_term c.in_ok-over_children-in-Node.field-0) c.parts.invariant c.in_ok-over_children-in-Node.ensures
    (take_mapped plain_term c.deref-part-items.result.now c.parts.part-index c.part-item.result c.parts-test.true c.part-item.is)
    (push_mapped plain_term c.parts.made.items c.push.new.self.items c.in_ok-over_children-in-Node.field-0 c.in_ok-push-in-Node.ensures.items)

pub returns-in_ok-map-in-Node : goal.returns-in_ok-map-in-Node
returns-in_ok-map-in-Node g t c =
    let T = g.T in
    let make = T.Labels.make in
    let D = (T.Theory.meaning c.args.theory.now).has in
    let eq = T.Map.PartialEq.eq in
    let before = called_in c.args.called.now.keys in
    let after = called_in c.parts.called.keys in
    let old = c.in-Node.map in
    let new = c.in_ok-map-in-Node.map in
    let same = c.in_ok-map-in-Node.ensures in
    let whole = take_all c.parts.part-index c.deref-part-items.result.now c.parts-test.false ∙ c.deref-part-items.ensures.value in
    let parts = subst (λ ps. AreOwnTerms make D eq before after (map plain_term ps) (map plain_term c.parts.made.items)) whole c.parts.invariant in
    let is = own_node make D eq before after c.in-Node.constructor old new (map plain_term c.in-Node.parts.items) (map plain_term c.parts.made.items) (λ l. g.met.T.Labels.equal_maps new old l same) (g.met.T.Map.Eq.laws.symm old new ∙ same) parts in
    subst (λ t. IsOwnTerm make D eq before after t (build c.in-Node.constructor new (plain_parts (hidden-the_row-Term-0 g.row.T-Map.Denot c.parts.made)))) (sym (out_node c.args.term.now c.in-Node.constructor old c.in-Node.parts c.in-Node.is))
    (subst (λ ps. IsOwnTerm make D eq before after (build c.in-Node.constructor old (parts_of (map plain_term c.in-Node.parts.items))) (build c.in-Node.constructor new ps)) (sym (parts_are c.parts.made)) is)

pub returns-in-Same : goal.returns-in-Same
returns-in-Same g t c =
    let T = g.T in
    let D = (T.Theory.meaning c.args.theory.now).has in
    let old = called_in c.args.called.now.keys in
    subst (λ t. IsOwnTerm T.Labels.make D T.Map.PartialEq.eq old old t (on identity c.in-Same.child)) (sym (ap plain_term c.in-Same.is)) (own_same T.Labels.make D T.Map.PartialEq.eq old c.in-Same.child)

pub returns-in_ok-number_called-in-Call : goal.returns-in_ok-number_called-in-Call
returns-in_ok-number_called-in-Call g t c =
    let T = g.T in
    let D = (T.Theory.meaning c.args.theory.now).has in
    let old = called_in c.args.called.now.keys in
    let new = called_in c.number_called.new.called.keys in
    let k = c.in_ok-number_called-in-Call.field-0 in
    subst (λ t. IsOwnTerm T.Labels.make D T.Map.PartialEq.eq old new t (on (run k) c.in-Call.child)) (sym (ap plain_term c.in-Call.is)) (own_state T.Labels.make D T.Map.PartialEq.eq old new c.in-Call.state c.in-Call.child k c.in_ok-number_called-in-Call.ensures)
