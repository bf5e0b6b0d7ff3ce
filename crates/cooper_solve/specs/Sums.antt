-- Forms that are at least 0.
use Rattle.std.specs.Prelude.{ℤ, pos, ◌≤ℤ◌, List}
use Rattle.std.specs.List.{All}
use Rattle.math_cooper.specs.System.{Affine, affine_value}

abbrev pub IsAtLeast : List ℤ → Affine → Type 0
IsAtLeast vs f = pos 0 ≤ℤ affine_value f vs

abbrev pub AreAtLeast : List ℤ → List Affine → Type 0
AreAtLeast vs fs = All (IsAtLeast vs) fs
