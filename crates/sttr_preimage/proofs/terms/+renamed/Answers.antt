use Rattle.std.proofs.Common.{map, take, take_all, sym, subst, ap, ◌∙◌}
use Rattle.std.specs.Prelude.{MatchOption}
use Rattle.std.proofs.Common.{Option, ◌≡◌}
use Rattle.model_sttr.specs.Terms.{build, on}
use Rattle.model_sttr.specs.Transducer.{identity, run}
use Rattle.sttr_core.specs.Terms.{plain_term, plain_parts}
use Rattle.sttr_core.specs.declared.term.Term.TheBlock.{hidden-the_row-Term-0}
use Rattle.sttr_core.proofs.Parts.{parts_are, parts_of}
use Rattle.sttr_run.specs.Plain.{plain_way_term, plain_triple}
use Rattle.sttr_preimage.specs.declared.called.Called.{Called}
use Rattle.sttr_preimage.specs.Names.{tidy}
use Rattle.sttr_preimage.specs.Called.{plain_called, called_in, unchanged, CallsOnly, IsRenamed}
use Rattle.sttr_preimage.proofs.Copying.{take_mapped, push_mapped, item_in}
use Rattle.sttr_preimage.proofs.Renaming.{AreRenamed, renamed_none, renamed_more, renamed_node, way_node, calls_part, own_call, unchanged_call, state_call}
use Rattle.sttr_preimage.proofs.terms.+renamed.Goals as goal

pub parts-init : goal.parts-init
parts-init g t c = λ calls. renamed_none g.T.Labels.make (g.T.Theory.meaning c.args.theory.now).has g.T.Map.PartialEq.eq (called_in c.args.called.now.keys) (map plain_term c.new-made.result.items) (ap (map plain_term) c.new-made.ensures.items)

pub parts-preserved : goal.parts-preserved
parts-preserved g t c = λ calls.
    let T = g.T in
    let own = way_node c.args.term.now c.in-Node.constructor c.in-Node.map c.in-Node.parts c.in-Node.is in
    let there = item_in plain_way_term c.deref-part-items.result.now c.in-Node.parts.items c.parts.part-index c.part-item.result c.deref-part-items.ensures.value c.parts-test.true c.part-item.is in
    let part = calls_part c.in-Node.constructor c.in-Node.map (map plain_way_term c.in-Node.parts.items) (plain_way_term c.part-item.result) (subst CallsOnly own calls) there in
    renamed_more T.Labels.make (T.Theory.meaning c.args.theory.now).has T.Map.PartialEq.eq (called_in c.args.called.now.keys) (called_in c.parts.called.keys) (called_in c.renamed.new.called.keys) (map plain_way_term (take c.parts.part-index c.deref-part-items.result.now)) (map plain_way_term (take _ c.deref-part-items.result.now))
    (map plain_term c.parts.made.items) (map plain_term c.push.new.self.items) (plain_way_term c.part-item.result) (plain_term c.in_ok-renamed-in-Node.field-0) (c.parts.invariant calls) (c.in_ok-renamed-in-Node.ensures part)
    (take_mapped plain_way_term c.deref-part-items.result.now c.parts.part-index c.part-item.result c.parts-test.true c.part-item.is)
    (push_mapped plain_term c.parts.made.items c.push.new.self.items c.in_ok-renamed-in-Node.field-0 c.in_ok-push-in-Node.ensures.items)

pub returns-in_ok-map-in-Node : goal.returns-in_ok-map-in-Node
returns-in_ok-map-in-Node g t c = λ calls.
    let T = g.T in
    let make = T.Labels.make in
    let D = (T.Theory.meaning c.args.theory.now).has in
    let eq = T.Map.PartialEq.eq in
    let old = called_in c.args.called.now.keys in
    let new = called_in c.parts.called.keys in
    let map_old = c.in-Node.map in
    let map_new = c.in_ok-map-in-Node.map in
    let same = c.in_ok-map-in-Node.ensures in
    let whole = take_all c.parts.part-index c.deref-part-items.result.now c.parts-test.false ∙ c.deref-part-items.ensures.value in
    let parts = subst (λ ps. AreRenamed make D eq old new (map plain_way_term ps) (map plain_term c.parts.made.items)) whole (c.parts.invariant calls) in
    let is = renamed_node make D eq old new c.in-Node.constructor map_old map_new (map plain_way_term c.in-Node.parts.items) (map plain_term c.parts.made.items) (λ l. g.met.T.Labels.equal_maps map_new map_old l same) (g.met.T.Map.Eq.laws.symm map_old map_new ∙ same) parts in
    subst (λ z. IsRenamed make D eq old new z (build c.in-Node.constructor map_new (plain_parts (hidden-the_row-Term-0 g.row.T-Map.Denot c.parts.made)))) (sym (way_node c.args.term.now c.in-Node.constructor map_old c.in-Node.parts c.in-Node.is))
    (subst (λ ps. IsRenamed make D eq old new (build c.in-Node.constructor map_old (parts_of (map plain_way_term c.in-Node.parts.items))) (build c.in-Node.constructor map_new ps)) (sym (parts_are c.parts.made)) is)

pub returns-in-None : goal.returns-in-None
returns-in-None g t c = λ calls.
    let T = g.T in
    let D = (T.Theory.meaning c.args.theory.now).has in
    let old = called_in c.args.called.now.keys in
    let x = plain_triple c.in-Call.triple in
    let is : unchanged ≡ tidy x = subst (λ (o : Option Called). MatchOption o (unchanged ≡ tidy x) (λ one. plain_called one ≡ tidy x)) c.in-None.is (c.in_ok-called_by-in-Call.ensures (own_call g.row.T-Map.Denot x c.in-Call.child (subst CallsOnly (ap plain_way_term c.in-Call.is) calls))) in
    subst (λ z. IsRenamed T.Labels.make D T.Map.PartialEq.eq old old z (on identity c.in-Call.child)) (sym (ap plain_way_term c.in-Call.is)) (unchanged_call T.Labels.make D T.Map.PartialEq.eq old x c.in-Call.child is)

pub returns-in_ok-number_called-in-Some : goal.returns-in_ok-number_called-in-Some
returns-in_ok-number_called-in-Some g t c = λ calls.
    let T = g.T in
    let D = (T.Theory.meaning c.args.theory.now).has in
    let old = called_in c.args.called.now.keys in
    let new = called_in c.number_called.new.called.keys in
    let x = plain_triple c.in-Call.triple in
    let k = c.in_ok-number_called-in-Some.field-0 in
    let is : plain_called c.in-Some.one ≡ tidy x = subst (λ (o : Option Called). MatchOption o (unchanged ≡ tidy x) (λ one. plain_called one ≡ tidy x)) c.in-Some.is (c.in_ok-called_by-in-Call.ensures (own_call g.row.T-Map.Denot x c.in-Call.child (subst CallsOnly (ap plain_way_term c.in-Call.is) calls))) in
    subst (λ z. IsRenamed T.Labels.make D T.Map.PartialEq.eq old new z (on (run k) c.in-Call.child)) (sym (ap plain_way_term c.in-Call.is)) (state_call T.Labels.make D T.Map.PartialEq.eq old new x c.in-Call.child c.in-Some.one k is c.in_ok-number_called-in-Some.ensures)
