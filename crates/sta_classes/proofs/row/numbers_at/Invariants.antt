use Rattle.std.proofs.Common.{ℕ, ◌≡◌, ◌<◌, ◌-◌, ◌↔◌, true, length}
use Rattle.model_sta.specs.Sets.{has}
use Rattle.sta_classes.specs.Bits.{both}
use Rattle.sta_classes.proofs.Numbers.{IsTakenBelow}
use Rattle.sta_classes.proofs.row.numbers_at.Given as goal

abbrev pub invariant-numbers : goal.invariant-numbers
invariant-numbers l = record {
  many : length l.row ≡ l.fn.places;
  taken : (s : ℕ) → has l.row s ≡ true ↔ IsTakenBelow (λ n. n) l.i l.list (both l.fn.first l.fn.second) s;
  here : l.i < length l.list → has (both l.fn.first l.fn.second) l.i ≡ true;
}

abbrev pub decreases-numbers : goal.decreases-numbers
decreases-numbers l = length l.list - l.i
