use Rattle.std.proofs.Common.{◌⊎◌, inl, inr, None}
use Rattle.std.specs.Prelude.{◌≡◌, Some, List, Contains}
use Rattle.fast_fault.specs.declared.refusal.Refusal.{Refusal}
use Rattle.model_checks.specs.Programs.{failures}
use Rattle.model_checks.proofs.FirstOf.{least, none_first, first_of_none}
use Rattle.model_checks.proofs.refusals_are_first.Goals as goal

one_of_these : (fs : List Refusal) (r : Refusal) → (None ≡ Some r) ⊎ Contains fs r → Contains fs r
one_of_these fs r (inl nothing) = absurd (cc)
one_of_these fs r (inr at) = at

pub returns : goal.returns
returns c = record {
  refused = λ items r e. (let first = least None (failures items) r e in record { fails = one_of_these (failures items) r first.is; first = first.not_these });
  not_refused = λ items e. none_first (failures items) e;
  well_formed = λ items e. first_of_none (failures items) e;
}
