-- What the refusal of a program is.
use Rattle.std.specs.Prelude.{◌≡◌, true, false, List, Contains, Some, None}
use Rattle.fast_fault.specs.declared.refusal.Refusal.{Refusal}
use Rattle.model_grammar.specs.Syntax.{Item}
use Rattle.model_checks.specs.Failures.{goes_before}
use Rattle.model_checks.specs.Programs.{failures, is_well_formed, refusal_of}

-- a failing condition before which no other goes
pub record IsFirst (items : List Item) (r : Refusal) : Type 0 where
  pub fails : Contains (failures items) r
  pub first : (f : Refusal) → Contains (failures items) f → goes_before f r ≡ false

pub record AreRefusals : Type 0 where
  -- A program that isn't well-formed has a refusal, and it is the first of the failing conditions.
  pub refused : (items : List Item) (r : Refusal) → refusal_of items ≡ Some r → IsFirst items r
  pub not_refused : (items : List Item) → refusal_of items ≡ None → is_well_formed items ≡ true
  pub well_formed : (items : List Item) → is_well_formed items ≡ true → refusal_of items ≡ None
