-- Why no form is given: a number that is outside, or want of memory.
use Rattle.std.specs.Prelude.{ℤ}
use Rattle.lin_form.specs.declared.stop.FormStop.{FormStop}
use Rattle.lin_form.specs.declared.stop.FormStop.TheVariants.{Range, Memory}

abbrev pub StopsAt : (ℤ → Type 0) → FormStop → Type 0
StopsAt IsOut (Range n) = IsOut n
StopsAt IsOut Memory = Unit {0}
