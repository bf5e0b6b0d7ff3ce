use Rattle.std.proofs.Common.{◌≡◌, [], map, ap, sym, subst, ◌∙◌}
use Rattle.model_tree.specs.Label.{row}
use Rattle.model_tree.specs.Signature.{sorts_of}
use Rattle.fast_tree.specs.Entries.{field_of, label_meaning}
use Rattle.fast_tree.specs.Signatures.{plain_field, plain_signature}
use Rattle.fast_syntax.specs.Plain.{plain_expr}
use Rattle.model_meaning.specs.Outputs.{made_label}
use Rattle.label_core.specs.Maps.{IsMade}
use Rattle.record_label.specs.Maps.{made, EntriesFit, AreEntriesOf, forms_in_each}
use Rattle.record_label.specs.Parts.{AreWithin}
use Rattle.record_label.specs.PlainMaps.{plain_entry}
use Rattle.tree_values.proofs.Labelled.{entries_fit, made_is, none_outside}
use Rattle.tree_values.proofs.labels.label_of.Goals as goal

pub map_of-requires-clause-within : goal.map_of-requires-clause-within
map_of-requires-clause-within c = subst (λ l. AreWithin (forms_in_each (map plain_field l) (map plain_expr c.args.labels.now))) (sym (c.in_ok-from.ensures {u = tt})) c.requires.within

pub apply-requires-clause-fits : goal.apply-requires-clause-fits
apply-requires-clause-fits c =
    let entries = map plain_entry c.in_ok-map.map.entries.items in
    subst (λ s. EntriesFit s entries) (sym (c.in_ok-theory.ensures {u = tt}))
    (entries_fit (map plain_field c.in_ok-from.from.fields.items) (map plain_expr c.args.labels.now) (sorts_of (plain_signature c.args.into.now)) entries (c.in_ok-map.ensures {u = tt}).entries)

pub unreachable-requires : goal.unreachable-requires
unreachable-requires c =
    let es = map plain_expr c.args.labels.now in
    let entries = map plain_entry c.in_ok-map.map.entries.items in
    let are = subst (λ l. AreEntriesOf (map plain_field l) es (sorts_of (plain_signature c.args.into.now)) entries) (c.in_ok-from.ensures {u = tt}) (c.in_ok-map.ensures {u = tt}).entries in
    let is : made entries (label_meaning c.new-3.result) ≡ made_label [] [] es (row []) = ap (λ l. made entries (row (map field_of l))) (c.new-3.ensures ∙ c.new-2.ensures.items) ∙ ap row (made_is es (sorts_of (plain_signature c.args.into.now)) entries are) in
    let out = subst (λ l. IsMade label_meaning l c.in_ok-label.field-0) is (c.in_ok-label.ensures {u = tt}) in
    let own = subst (IsMade label_meaning (made_label [] [] es (row []))) c.in-Range.is out in
    none_outside _ c.in-Range.field-0 c.requires.kept own.0 own.1

pub returns : goal.returns
returns c =
    let es = map plain_expr c.args.labels.now in
    let entries = map plain_entry c.in_ok-map.map.entries.items in
    let are = subst (λ l. AreEntriesOf (map plain_field l) es (sorts_of (plain_signature c.args.into.now)) entries) (c.in_ok-from.ensures {u = tt}) (c.in_ok-map.ensures {u = tt}).entries in
    let is : made entries (label_meaning c.new-3.result) ≡ made_label [] [] es (row []) = ap (λ l. made entries (row (map field_of l))) (c.new-3.ensures ∙ c.new-2.ensures.items) ∙ ap row (made_is es (sorts_of (plain_signature c.args.into.now)) entries are) in
    let own = subst (IsMade label_meaning (made entries (label_meaning c.new-3.result))) c.in-Value.is (c.in_ok-label.ensures {u = tt}) in
    own.0 ∙ is
