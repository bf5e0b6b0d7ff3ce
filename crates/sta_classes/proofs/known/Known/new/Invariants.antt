use Rattle.std.proofs.Common.{ℕ, [], ◌≡◌, ◌<◌, length, get_or}
use Rattle.sta_classes.specs.Rows.{lists_of}
use Rattle.sta_classes.specs.Searched.{ArePlaces}
use Rattle.sta_classes.proofs.known.Known.new.Given as goal

abbrev pub invariant-constructors : goal.invariant-constructors
invariant-constructors g l = record {
  many : length l.places.items ≡ l.constructor;
  each : (c : ℕ) → c < length l.places.items → ArePlaces l.rules [] c (get_or l.ranks c 0) (get_or (lists_of l.places.items) c []);
}

abbrev pub invariant-places : goal.invariant-places
invariant-places g l = ArePlaces l.rules [] l.constructor l.place l.those.items
