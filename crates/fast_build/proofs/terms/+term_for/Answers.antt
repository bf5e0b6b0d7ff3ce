use Rattle.std.proofs.Common.{◌≡◌, ◌<◌, map, length, get_or, sym, ap, subst, ◌∙◌, take_all, arith}
use Rattle.fast_tree.specs.Signatures.{plain_signature, plain_constructor}
use Rattle.model_tree.specs.Signature.{sorts_of}
use Rattle.fast_syntax.specs.View.{plain_name}
use Rattle.fast_syntax.specs.Plain.{plain_out, plain_expr}
use Rattle.fast_syntax.specs.Slices.{plain_outputs}
use Rattle.model_guard.specs.Forms.{HasOutside}
use Rattle.model_sta.specs.Pairwise.{Pairwise}
use Rattle.model_sta.proofs.Pairs.{pairwise_more}
use Rattle.model_sttr.specs.Terms.{build}
use Rattle.record_label.specs.Maps.{forms_in_each, AreEntriesOf}
use Rattle.record_label.specs.PlainMaps.{plain_entry}
use Rattle.record_label.specs.Written.{plain_written, written_for_each}
use Rattle.record_label.specs.declared.maps.RowMap.{RowMap}
use Rattle.sttr_core.specs.declared.term.Term.TheBlock.{hidden-the_row-Term-0}
use Rattle.sttr_core.specs.Terms.{plain_term, plain_parts}
use Rattle.sttr_core.proofs.Parts.{parts_are}
use Rattle.fast_build.specs.Numbers.{number_in, IsNumbered}
use Rattle.fast_build.specs.Terms.{IsMapFor, IsTermFor, AreTermsFor, TermStands}
use Rattle.fast_build.proofs.TermParts.{terms_paired, part_stands, out_size, part_smaller, node_is}
use Rattle.fast_build.proofs.terms.+term_for.Goals as goal

pub map_of-requires-clause-within : goal.map_of-requires-clause-within
map_of-requires-clause-within t c =
    let s = plain_signature c.args.from.now in
    let stands = subst (TermStands s (plain_signature c.args.into.now) c.args.names.now.keys (map plain_name c.args.vars.now)) (node_is c.args.out.now c.in-Node.name c.in-Node.labels c.in-Node.parts c.in-Node.is) c.requires.stands in
    subst (λ es. (n : _) → HasOutside (forms_in_each s.fields (map plain_expr es)) n → ⊥) (sym c.deref-in-Node.ensures.value) stands.1.within

pub term_for-requires : goal.term_for-requires
term_for-requires t c =
    let s = plain_signature c.args.from.now in
    let own = node_is c.args.out.now c.in-Node.name c.in-Node.labels c.in-Node.parts c.in-Node.is in
    let stands = subst (TermStands s (plain_signature c.args.into.now) c.args.names.now.keys (map plain_name c.args.vars.now)) own c.requires.stands in
    let all = c.deref-part-items.ensures.value in
    let at = subst (λ xs. c.part-item.result ≡ get_or xs c.parts.part-index c.part-item.result) all c.part-item.is in
    let low = subst (λ xs. c.parts.part-index < length xs) all c.parts-test.true in
    let less = part_smaller c.in-Node.parts.items c.parts.part-index c.part-item.result low at in
    let whole = ap out_size own in
    (omega (arith, less, whole, c.decreases), (c.requires.few, part_stands s (plain_signature c.args.into.now) c.args.names.now.keys (map plain_name c.args.vars.now) c.in-Node.parts.items c.parts.part-index c.part-item.result stands.2 low at))

pub parts-preserved : goal.parts-preserved
parts-preserved t c =
    pairwise_more (λ p o. IsTermFor (plain_signature c.args.from.now) (plain_signature c.args.into.now) (number_in c.args.names.now.keys) (map plain_name c.args.vars.now) o p) plain_term plain_out c.parts.made.items c.push.new.self.items c.in_ok-term_for-in-Node.field-0
    c.deref-part-items.result.now c.parts.part-index c.part-item.result c.parts-test.true c.part-item.is c.in_ok-push-in-Node.ensures.items c.in_ok-term_for-in-Node.ensures c.parts.invariant

pub returns-after-parts : goal.returns-after-parts
returns-after-parts t c =
    let s = plain_signature c.args.from.now in
    let into = plain_signature c.args.into.now in
    let place = number_in c.args.names.now.keys in
    let vars = map plain_name c.args.vars.now in
    let own = node_is c.args.out.now c.in-Node.name c.in-Node.labels c.in-Node.parts c.in-Node.is in
    let all = take_all c.parts.part-index c.deref-part-items.result.now c.parts-test.false ∙ c.deref-part-items.ensures.value in
    let pairs = subst (λ os. Pairwise (λ p o. IsTermFor s into place vars o p) (map plain_term c.parts.made.items) (map plain_out os)) all c.parts.invariant in
    let parts = subst (AreTermsFor s into place vars (plain_outputs c.in-Node.parts.items)) (sym (parts_are c.parts.made)) (terms_paired s into place vars (map plain_term c.parts.made.items) c.in-Node.parts.items pairs) in
    let numbered = subst (λ ks. IsNumbered (map plain_constructor ks) c.in-Node.name.text c.in_ok-constructor-in-Node.constructor) c.deref.ensures.value c.in_ok-constructor-in-Node.ensures in
    let made = c.in_ok-map-in-Node.ensures in
    let labelled : IsMapFor s into (map plain_expr c.in-Node.labels.items) c.in_ok-map-in-Node.map = record {
      entries = subst (λ es. AreEntriesOf s.fields (map plain_expr es) (sorts_of into) (map plain_entry c.in_ok-map-in-Node.map.entries.items)) c.deref-in-Node.ensures.value made.entries;
      written = subst (λ es. map plain_written c.in_ok-map-in-Node.map.written.items ≡ written_for_each (sorts_of into) (map plain_expr es)) c.deref-in-Node.ensures.value made.written;
    } in
    subst (λ o. IsTermFor s into place vars o (build c.in_ok-constructor-in-Node.constructor c.in_ok-map-in-Node.map (plain_parts (hidden-the_row-Term-0 RowMap c.parts.made)))) (sym own) (numbered, labelled, parts)
