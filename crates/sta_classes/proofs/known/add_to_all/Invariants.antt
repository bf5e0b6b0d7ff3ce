use Rattle.std.proofs.Common.{ℕ, [], ◌≡◌, ◌<◌, ◌≤◌, length, get_or}
use Rattle.sta_classes.specs.Places.{IsNext}
use Rattle.sta_classes.specs.Rows.{lists_of}
use Rattle.sta_classes.specs.Searched.{NextPlaces}
use Rattle.sta_classes.specs.declared.place.Place.{Place}
use Rattle.sta_classes.proofs.known.add_to_all.Given as goal

abbrev pub invariant-constructors : goal.invariant-constructors
invariant-constructors l = record {
  many : length l.all.items ≡ length l.initial.all.items;
  done : (c : ℕ) → c < l.constructor → c < length l.initial.all.items → NextPlaces l.row (get_or (lists_of l.initial.all.items) c []) (get_or (lists_of l.all.items) c []);
  left : (c : ℕ) → l.constructor ≤ c → get_or (lists_of l.all.items) c [] ≡ get_or (lists_of l.initial.all.items) c [];
}

abbrev pub invariant-places : goal.invariant-places
invariant-places l = record {
  many : length l.places.items ≡ length l.initial.places.items;
  done : (j : ℕ) (p q : Place) → j < l.place → get_or l.initial.places.items j p ≡ p → get_or l.places.items j q ≡ q → IsNext l.row p q;
  left : (j : ℕ) (q : Place) → l.place ≤ j → get_or l.places.items j q ≡ get_or l.initial.places.items j q;
}
