-- Sums that are at least 0.
use Rattle.std.specs.Prelude.{ℤ, pos, ◌+ℤ◌, ◌≤ℤ◌, List}
use Rattle.math_cooper.specs.System.{dot}
use Rattle.lin_reduce.specs.declared.certificate.Sum.{Sum}

abbrev pub IsAtLeast : List ℤ → Sum → Type 0
IsAtLeast vs s = pos 0 ≤ℤ (dot s.coefficients.items vs +ℤ s.constant)
