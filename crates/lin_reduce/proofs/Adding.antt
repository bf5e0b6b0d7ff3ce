-- Sums that are at least 0, with so many times another that is.
use Rattle.std.proofs.Common.{◌≡◌, ℕ, ◌≤◌, List, length, replicate, arith}
use Rattle.std.proofs.Math.IntN.{ℤ, pos, ◌+ℤ◌, ◌*ℤ◌}
use Rattle.std.specs.Prelude.{◌≤ℤ◌}
use Rattle.std.proofs.lemmas.Int.{ints}
use Rattle.math_int.proofs.Laws.{times-add}
use Rattle.math_cooper.specs.System.{dot, add_times}
use Rattle.math_cooper.proofs.Systems.{dot-add_times, dot-zeros}
use Rattle.cooper_solve.proofs.Summing.{natural_times}

pub added_at_least : (vs f g : List ℤ) (t k m : ℤ) → pos 0 ≤ℤ t → length f ≡ length g → pos 0 ≤ℤ (dot f vs +ℤ k) → pos 0 ≤ℤ (dot g vs +ℤ m) → pos 0 ≤ℤ (dot (add_times t f g) vs +ℤ (k +ℤ (t *ℤ m)))
added_at_least vs f g t k m some same h i =
    let short : length g ≤ length f = omega arith in
    let both = dot-add_times t f g vs short in
    let n = natural_times t (dot g vs +ℤ m) some i in
    let s = times-add t (dot g vs) m in
    omega (arith, ints)

pub none_at_least : (n : ℕ) (vs : List ℤ) → pos 0 ≤ℤ (dot (replicate n (pos 0)) vs +ℤ pos 0)
none_at_least n vs = let z = dot-zeros n vs in omega (arith, ints)
