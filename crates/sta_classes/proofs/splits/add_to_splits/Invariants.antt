use Rattle.std.proofs.Common.{ℕ, ◌≡◌, ◌<◌, ◌≤◌, length, get_or}
use Rattle.sta_classes.specs.Splits.{IsNextOf}
use Rattle.sta_classes.specs.declared.splits.Splits.{Splits}
use Rattle.sta_classes.proofs.splits.add_to_splits.Given as goal

abbrev pub invariant-constructors : goal.invariant-constructors
invariant-constructors g l = record {
  many : length l.splits.items ≡ length l.initial.splits.items;
  done : (c : ℕ) (s s' : Splits g.row.V.Denot) → c < l.constructor → get_or l.initial.splits.items c s ≡ s → get_or l.splits.items c s' ≡ s' → IsNextOf l.ranks l.own l.row c s s';
  left : (c : ℕ) (s : Splits g.row.V.Denot) → l.constructor ≤ c → get_or l.splits.items c s ≡ get_or l.initial.splits.items c s;
}
