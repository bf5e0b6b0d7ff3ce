use Rattle.std.proofs.Common.{◌≡◌, ℕ, ◌<◌, get_or, false}
use Rattle.model_form.specs.Sums.{is_like}
use Rattle.lin_form.specs.declared.sum.Like.{Like}
use Rattle.lin_form.proofs.sum.place_of_like.Given as goal

abbrev pub invariant-loop-i : goal.invariant-loop-i
invariant-loop-i l = (k : ℕ) (d : Like) → k < l.i → is_like (get_or l.likes k d).inner (get_or l.likes k d).divisor l.inner l.divisor ≡ false
