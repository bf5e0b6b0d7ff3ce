use Rattle.std.proofs.Common.{◌≡◌}
use Rattle.sttr_apply.specs.Calls.{uses_in}
use Rattle.sttr_apply.proofs.Used.{NoneBefore}
use Rattle.sttr_apply.proofs.calls.place_of_entry.Given as goal

abbrev pub invariant-entries : goal.invariant-entries
invariant-entries g l = record {
  at : l.i ≡ l.entry-index;
  none : NoneBefore l.state l.i (uses_in l.entries);
}
