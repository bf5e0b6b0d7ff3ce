use Rattle.std.proofs.Common.{◌≡◌, ◌++◌, ◌∷◌, [], map}
use Rattle.std.proofs.Math.IntN.{ℤ}
use Rattle.std.proofs.lemmas.Result.{err_from_is_err_and}
use Rattle.record_label.specs.Maps.{put_entry, IsOutsideEntry, SomeOutside}
use Rattle.record_label.specs.PlainMaps.{plain_entry}
use Rattle.record_label.proofs.Follows.{stops_after, taken}
use Rattle.record_label.proofs.PutFacts.{done_more, done_all, outside_here}
use Rattle.record_label.proofs.puts.put_entries.Goals as goal

pub returns-in_err-added : goal.returns-in_err-added
returns-in_err-added c =
    let first = map plain_entry c.args.first.now in
    let it = c.entry-item.result in
    let items = c.args.entries.now in
    let p = err_from_is_err_and c.from_residual-in_err-added.result c.from_residual-in_err-added.ensures.1 in
    let out = outside_here plain_entry (put_entry first) (IsOutsideEntry first) items c.loop-entry.entry-index it c.loop-entry-test.true c.entry-item.is in
    rw (p.1, p.2) (stops_after c.put_entry.result c.in_err-added.field-0.0 (λ x _. c.added.new.list.items ≡ c.loop-entry.made.items ++ x ∷ []) (λ _ _. ⊥) (λ x. (plain_entry x ≡ put_entry first (plain_entry it)) × ((n : ℤ) → IsOutsideEntry first (plain_entry it) n → ⊥)) (IsOutsideEntry first (plain_entry it)) (SomeOutside (IsOutsideEntry first) (map plain_entry items)) out (λ x is n o. absurd o) c.put_entry.ensures c.in_err-added.ensures)

pub loop-entry-preserved : goal.loop-entry-preserved
loop-entry-preserved c =
    let first = map plain_entry c.args.first.now in
    let it = c.entry-item.result in
    let own = taken c.put_entry.result tt (λ x _. c.added.new.list.items ≡ c.loop-entry.made.items ++ x ∷ []) (λ _ _. ⊥) (λ x. (plain_entry x ≡ put_entry first (plain_entry it)) × ((n : ℤ) → IsOutsideEntry first (plain_entry it) n → ⊥)) (IsOutsideEntry first (plain_entry it)) c.put_entry.ensures c.in_ok-added.ensures in
    done_more plain_entry (put_entry first) (IsOutsideEntry first) c.args.entries.now c.loop-entry.entry-index it c.loop-entry.made.items c.added.new.list.items own.0 c.loop-entry-test.true c.entry-item.is own.2 own.1 c.loop-entry.invariant

pub returns : goal.returns
returns c =
    let first = map plain_entry c.args.first.now in
    done_all plain_entry (put_entry first) (IsOutsideEntry first) c.args.entries.now c.loop-entry.entry-index c.loop-entry.made.items c.loop-entry-test.false c.loop-entry.invariant
