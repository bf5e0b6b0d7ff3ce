use Rattle.std.proofs.Common.{◌≡◌, drop}
use Rattle.std.specs.Prelude.{pos}
use Rattle.model_form.specs.Simpler.{add_all_open, inside, reduced}
use Rattle.lin_form.specs.Gathered.{plain_likes, plain_sum}
use Rattle.lin_form.specs.Within.{IsReduced}
use Rattle.lin_form.proofs.sum.Sum.opened.Given as goal

abbrev pub invariant-loop-like : goal.invariant-loop-like
invariant-loop-like l = record {
  value : reduced l.by (add_all_open l.by (pos 1) (plain_likes (drop l.like-index l.like-items)) (plain_sum l.sum)) ≡ inside l.by (plain_sum l.self);
  reduced : IsReduced l.by (plain_sum l.sum);
}
