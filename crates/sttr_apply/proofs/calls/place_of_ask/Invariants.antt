use Rattle.std.proofs.Common.{◌≡◌}
use Rattle.sttr_apply.specs.Calls.{asks_in}
use Rattle.sttr_apply.proofs.Used.{NoneBefore}
use Rattle.sttr_apply.proofs.calls.place_of_ask.Given as goal

abbrev pub invariant-asks : goal.invariant-asks
invariant-asks l = record {
  at : l.i ≡ l.ask-index;
  none : NoneBefore l.state l.i (asks_in l.asks);
}
