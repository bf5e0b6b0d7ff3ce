-- Why a program doesn't pass.
use Rattle.std.specs.Prelude.{◌≡◌, Option, Some}
use Rattle.fast_fault.specs.declared.refusal.Refusal.{Refusal}
use Rattle.program_check.specs.declared.programs.CheckStop.{CheckStop}
use Rattle.program_check.specs.declared.programs.CheckStop.TheVariants.{Refused, Memory}

-- it is refused for this, or there was want of memory
abbrev pub IsStop : Option Refusal → CheckStop → Type 0
IsStop refusal (Refused r) = refusal ≡ Some r
IsStop refusal Memory = Unit {0}
