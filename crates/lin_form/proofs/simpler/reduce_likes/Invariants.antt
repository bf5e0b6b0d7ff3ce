use Rattle.std.proofs.Common.{◌≡◌}
use Rattle.lin_form.proofs.Reducing.{front, reduced_like}
use Rattle.lin_form.proofs.simpler.reduce_likes.Given as goal

abbrev pub invariant-loop-i : goal.invariant-loop-i
invariant-loop-i l = l.likes.items ≡ front (reduced_like l.by) l.i l.initial.likes.items
