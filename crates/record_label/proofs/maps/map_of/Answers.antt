use Rattle.std.proofs.Common.{◌≡◌, map, take, subst, arith}
use Rattle.std.proofs.lemmas.List.{take_all, length-map}
use Rattle.model_tree.specs.Signature.{sorts_of}
use Rattle.fast_tree.specs.Signatures.{plain_signature}
use Rattle.fast_syntax.specs.Plain.{plain_expr}
use Rattle.record_label.specs.Maps.{AreEntriesOf, IsEntryOf}
use Rattle.record_label.specs.PlainMaps.{plain_entry}
use Rattle.fast_tree.specs.Signatures.{plain_sort}
use Rattle.record_label.proofs.CopyFacts.{given_made}
use Rattle.record_label.proofs.EntryFacts.{many_sorts, many_labels, label_sorted, label_outside, entries_more}
use Rattle.record_label.proofs.maps.map_of.Goals as goal

pub index-requires : goal.index-requires
index-requires c =
    let many = many_labels (plain_signature c.args.from.now).fields c.args.labels.now c.args.into.now.fields.items c.requires.sorted in
    let low = c.loop-i-test.true in
    let whole = c.args.into.now.fields.ok in
    omega (arith, many, low, whole)

pub entry_of-entry-requires-clause-sorted : goal.entry_of-entry-requires-clause-sorted
entry_of-entry-requires-clause-sorted c =
    label_sorted (plain_signature c.args.from.now).fields c.args.labels.now c.args.into.now.fields.items c.requires.sorted c.loop-i.i c.index-labels-i.result c.index.result.now c.loop-i-test.true c.index-labels-i.is c.index.ensures

pub entry_of-entry-requires-clause-within : goal.entry_of-entry-requires-clause-within
entry_of-entry-requires-clause-within c n o =
    c.requires.within n (label_outside (plain_signature c.args.from.now).fields c.args.labels.now c.args.into.now.fields.items c.requires.sorted c.loop-i.i c.index-labels-i.result c.index.result.now c.loop-i-test.true c.index-labels-i.is c.index.ensures n o)

pub loop-i-preserved : goal.loop-i-preserved
loop-i-preserved c =
    let low = c.loop-i-test.true in
    let own = c.in_ok-added.ensures {u = tt} in
    (omega (arith, low), entries_more (plain_signature c.args.from.now).fields c.args.labels.now c.args.into.now.fields.items c.requires.sorted c.loop-i.i c.index-labels-i.result c.index.result.now c.loop-i-test.true c.index-labels-i.is c.index.ensures c.loop-i.entries.items c.added.new.list.items own.0 own.2 c.loop-i.invariant.1 (given_made c.entry_of-entry.result (λ entry. IsEntryOf (plain_signature c.args.from.now).fields (plain_expr c.index-labels-i.result) (plain_sort c.index.result.now.sort) (plain_entry entry)) own.0 own.1 c.entry_of-entry.ensures))

pub kept_of_each-requires : goal.kept_of_each-requires
kept_of_each-requires c = many_labels (plain_signature c.args.from.now).fields c.args.labels.now c.args.into.now.fields.items c.requires.sorted

pub returns-clause-entries : goal.returns-clause-entries
returns-clause-entries c =
    let fields = (plain_signature c.args.from.now).fields in
    let es = map plain_expr c.args.labels.now in
    let sorts = sorts_of (plain_signature c.args.into.now) in
    let high = c.loop-i-test.false in
    let many = many_sorts fields es sorts c.requires.sorted in
    let whole : take c.loop-i.i es ≡ es = take_all c.loop-i.i es (omega (arith, high, length-map c.args.labels.now plain_expr)) in
    let whole' : take c.loop-i.i sorts ≡ sorts = take_all c.loop-i.i sorts (omega (arith, high, many, length-map c.args.labels.now plain_expr)) in
    subst (λ xs. AreEntriesOf fields xs sorts (map plain_entry c.loop-i.entries.items)) whole (subst (λ xs. AreEntriesOf fields (take c.loop-i.i es) xs (map plain_entry c.loop-i.entries.items)) whole' c.loop-i.invariant.1)
