-- What is noted while a program is checked.
use Rattle.std.specs.Prelude.{◌≡◌, List, false}
use Rattle.fast_fault.specs.declared.refusal.Refusal.{Refusal}
use Rattle.model_checks.specs.Failures.{first_among}
use Rattle.program_check.specs.declared.checker.Checker.{Checker}

-- memory didn't run out so far
abbrev pub HasMemory : Checker → Type 0
HasMemory c = c.ran_out ≡ false

-- what is noted now is the first of what was noted before and of these
pub record Noted (old new : Checker) (failures : List Refusal) : Type 0 where
  pub is : new.known ≡ first_among old.known failures
  pub had : HasMemory old

-- unless memory ran out, these are noted
abbrev pub Notes : Checker → Checker → List Refusal → Type 0
Notes old new failures = HasMemory new → Noted old new failures

-- of all that is to be noted this is left
pub record LeftOver (start now : Checker) (all rest : List Refusal) : Type 0 where
  pub is : first_among now.known rest ≡ first_among start.known all
  pub had : HasMemory start

-- unless memory ran out, this is left
abbrev pub Left : Checker → Checker → List Refusal → List Refusal → Type 0
Left start now all rest = HasMemory now → LeftOver start now all rest
