use Rattle.std.proofs.Common.{◌≡◌, ℕ, ◌+◌, ◌^◌, ◌≤◌, drop}
use Rattle.model_form.specs.Sums.{add_remainders}
use Rattle.lin_form.specs.Within.{LikesBefore}
use Rattle.lin_form.specs.Terms.{plain_remainders}
use Rattle.lin_form.specs.Gathered.{plain_likes}
use Rattle.lin_form.proofs.sum.add_remainders.Given as goal

abbrev pub invariant-loop-term : goal.invariant-loop-term
invariant-loop-term l = record {
  value : add_remainders l.fn.by (plain_remainders (drop l.term-index l.terms)) (plain_likes l.likes.items) ≡ add_remainders l.fn.by (plain_remainders l.terms) (plain_likes l.initial.likes.items);
  small : (m : ℕ) × (m ≤ 2 ^ 64 + 16) × LikesBefore m (plain_remainders (drop l.term-index l.terms)) (plain_likes l.likes.items);
}
