use Rattle.std.proofs.Common.{◌≡◌, map, Contains, rules, sym, subst, ap, ◌∙◌}
use Rattle.std.specs.Prelude.{FitsSigned}
use Rattle.std.specs.Int.{w64, w128}
use Rattle.std.specs.List.{list_all}
use Rattle.std.proofs.lemmas.Int.{to_z-of_z}
use Rattle.std.proofs.lemmas.List.{take_all}
use Rattle.model_tree.specs.Label.{whole, row}
use Rattle.model_tree.specs.Kept.{is_kept_field}
use Rattle.fast_tree.specs.Entries.{entries_of, field_of}
use Rattle.record_label.specs.Maps.{made_by, EntriesFit}
use Rattle.record_label.specs.PlainMaps.{plain_entry}
use Rattle.record_label.proofs.MapFacts.{entry_fits, made_more, made_number_at}
use Rattle.record_label.proofs.maps.RowMap.apply.Goals as goal

pub made_entry-requires-clause-fits : goal.made_entry-requires-clause-fits
made_entry-requires-clause-fits c =
    entry_fits c.args.theory.now c.deref-entry-items.result.now c.loop-entry.entry-index c.entry-item.result c.loop-entry-test.true c.entry-item.is (subst (λ xs. EntriesFit c.args.theory.now (map plain_entry xs)) (sym c.deref-entry-items.ensures.value) c.requires.fits)

pub loop-entry-preserved : goal.loop-entry-preserved
loop-entry-preserved c =
    made_more (map field_of (entries_of c.args.value.now)) c.deref-entry-items.result.now c.loop-entry.entry-index c.entry-item.result c.loop-entry.values.items c.push.new.self.items c.in-Value.made c.loop-entry-test.true c.entry-item.is (c.in_ok-push-in-Value.ensures {u = tt}).items (rw c.in-Value.is at (c.in_ok-made.ensures {u = tt})) c.loop-entry.invariant

pub returns-in-Range : goal.returns-in-Range
returns-in-Range c =
    let fields = map field_of (entries_of c.args.value.now) in
    let n = c.in-Range.number in
    let fits : FitsSigned w128 n = search rules in
    let h = rw c.in-Range.is at (c.in_ok-made.ensures {u = tt}) in
    let among = made_number_at fields c.deref-entry-items.result.now c.loop-entry.entry-index c.entry-item.result n c.loop-entry-test.true c.entry-item.is h.0 in
    subst (λ z. Contains (map (made_by fields) (map plain_entry c.args.self.now.entries.items)) (whole z) × (FitsSigned w64 z → ⊥)) (sym (to_z-of_z w128 n fits)) (subst (λ xs. Contains (map (made_by fields) (map plain_entry xs)) (whole n)) c.deref-entry-items.ensures.value among, h.1)

pub returns : goal.returns
returns c =
    let fields = map field_of (entries_of c.args.value.now) in
    let items = c.deref-entry-items.result.now in
    let done : map field_of c.loop-entry.values.items ≡ map (made_by fields) (map plain_entry c.args.self.now.entries.items) =
    c.loop-entry.invariant.0 ∙ ap (λ xs. map (made_by fields) (map plain_entry xs)) (take_all c.loop-entry.entry-index items c.loop-entry-test.false ∙ c.deref-entry-items.ensures.value) in
    (ap (λ vs. row (map field_of vs)) c.new.ensures ∙ ap row done, sym (ap (list_all is_kept_field) done) ∙ c.loop-entry.invariant.1)
