use Rattle.std.proofs.Common.{◌≡◌, map, take, arith, ◌∙◌}
use Rattle.std.proofs.lemmas.List.{take_all, length-map}
use Rattle.model_tree.specs.Signature.{sorts_of, PlainField}
use Rattle.fast_tree.specs.Signatures.{plain_signature, plain_field}
use Rattle.fast_syntax.specs.Plain.{plain_expr}
use Rattle.record_label.specs.Written.{plain_written, written_for, written_for_each}
use Rattle.fast_tree.specs.Signatures.{plain_sort}
use Rattle.record_label.proofs.CopyFacts.{given_made}
use Rattle.record_label.proofs.EntryFacts.{kept_more}
use Rattle.record_label.proofs.maps.kept_of_each.Goals as goal

pub index-requires : goal.index-requires
index-requires c =
    let many = c.requires in
    let low = c.loop-i-test.true in
    let whole = c.args.into.now.fields.ok in
    omega (arith, many, low, whole)

pub loop-i-preserved : goal.loop-i-preserved
loop-i-preserved c =
    let low = c.loop-i-test.true in
    let own = c.in_ok-added.ensures {u = tt} in
    (omega (arith, low), kept_more c.args.labels.now c.args.into.now.fields.items c.requires c.loop-i.i c.index-labels-i.result c.index.result.now c.loop-i-test.true c.index-labels-i.is c.index.ensures c.loop-i.written.items c.added.new.list.items own.0 own.2 c.loop-i.invariant.1 (given_made c.kept_of-kept.result (λ kept. plain_written kept ≡ written_for (plain_sort c.index.result.now.sort) (plain_expr c.index-labels-i.result)) own.0 own.1 c.kept_of-kept.ensures))

pub returns : goal.returns
returns c =
    let es = map plain_expr c.args.labels.now in
    let sorts = sorts_of (plain_signature c.args.into.now) in
    let high = c.loop-i-test.false in
    let whole : take c.loop-i.i es ≡ es = take_all c.loop-i.i es (omega (arith, high, length-map c.args.labels.now plain_expr)) in
    let whole' : take c.loop-i.i sorts ≡ sorts = take_all c.loop-i.i sorts (omega (arith, high, c.requires, length-map (map plain_field c.args.into.now.fields.items) (λ (g : PlainField). g.sort), length-map c.args.into.now.fields.items plain_field)) in
    c.loop-i.invariant.1 ∙ (λ j. written_for_each (whole' j) (whole j))
