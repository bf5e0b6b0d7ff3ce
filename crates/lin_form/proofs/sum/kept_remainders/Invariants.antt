use Rattle.std.proofs.Common.{◌≡◌, ℤ}
use Rattle.std.specs.Vec.Iter.{into_iter_items}
use Rattle.model_form.specs.Sums.{without_zeros}
use Rattle.model_form.specs.Ranges.{IsOfRemainders, IsCoefficient}
use Rattle.lin_form.specs.Terms.{plain_remainders}
use Rattle.lin_form.specs.Gathered.{plain_likes}
use Rattle.lin_form.proofs.Joined.{joined}
use Rattle.lin_form.proofs.sum.kept_remainders.Given as goal

abbrev pub invariant-loop-like : goal.invariant-loop-like
invariant-loop-like l = record {
  value : joined (plain_remainders l.kept.items) (without_zeros (plain_likes (into_iter_items l.like-iterator))) ≡ without_zeros (plain_likes l.fn.likes.items);
  range : (n : ℤ) → IsOfRemainders n (plain_remainders l.kept.items) → IsCoefficient n;
}
