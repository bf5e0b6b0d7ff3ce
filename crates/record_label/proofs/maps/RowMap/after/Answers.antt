use Rattle.record_label.proofs.maps.RowMap.after.Goals as goal

-- src/puts.rt:240:5
pub returns-clause-entries : goal.returns-clause-entries
returns-clause-entries c = rw c.deref-2.ensures.value at (rw c.deref.ensures.value at (c.in_ok-entries.ensures {u = tt}))
