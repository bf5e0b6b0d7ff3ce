use Rattle.std.proofs.Common.{◌≡◌, map, drop, take}
use Rattle.fast_syntax.specs.Plain.{plain_item}
use Rattle.model_checks.specs.Failures.{first_among}
use Rattle.model_checks.specs.Programs.{failures_behind, refusal_of}
use Rattle.program_check.specs.Notes.{HasMemory}
use Rattle.program_check.proofs.programs.number_and_sign.Given as goal

abbrev pub invariant-items : goal.invariant-items
invariant-items l =
    let all = map plain_item l.items in
    HasMemory l.checker → first_among l.checker.known (failures_behind all (take l.before all) (map plain_item (drop l.before l.items))) ≡ refusal_of all
