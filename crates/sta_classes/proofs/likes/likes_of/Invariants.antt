use Rattle.std.proofs.Common.{ℕ, ◌≡◌, ◌<◌, length, get_or}
use Rattle.sta_classes.specs.Applying.{IsLike}
use Rattle.sta_classes.proofs.likes.likes_of.Given as goal

abbrev pub invariant-loop-number : goal.invariant-loop-number
invariant-loop-number g l = record {
  many : length l.likes.items ≡ l.number;
  each : (i : ℕ) → i < l.number → IsLike g.A.PartialEq.eq l.list i (get_or l.likes.items i 0);
}
