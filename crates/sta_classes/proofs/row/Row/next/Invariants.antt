use Rattle.std.proofs.Common.{ℕ, ◌≡◌, ◌<◌, ◌≤◌, ◌-◌, false}
use Rattle.model_sta.specs.Sets.{has}
use Rattle.sta_classes.proofs.row.Row.next.Given as goal

abbrev pub invariant-places : goal.invariant-places
invariant-places l = record {
  from : l.from ≤ l.place;
  none : (i : ℕ) → l.from ≤ i → i < l.place → has l.self i ≡ false;
}

abbrev pub decreases-places : goal.decreases-places
decreases-places l = l.self-inside.places - l.place
