use Rattle.std.proofs.Common.{◌≡◌, take, suc}
use Rattle.std.specs.Prelude.{◌+ℤ◌}
use Rattle.math_cooper.specs.System.{dot}
use Rattle.exact_quotient.specs.Limbs.{worth, IsSmall}
use Rattle.exact_quotient.proofs.value_of.Given as goal

abbrev pub invariant-loop-i : goal.invariant-loop-i
invariant-loop-i l = record {
  value : worth l.sum ≡ dot (take l.i l.coefficients) (take l.i l.values) +ℤ l.fn.constant;
  small : IsSmall (suc l.i) l.sum;
}
