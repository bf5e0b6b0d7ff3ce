use Rattle.std.proofs.Common.{map, drop}
use Rattle.std.specs.List.{flat_map}
use Rattle.fast_syntax.specs.View.{plain_field, plain_ctor}
use Rattle.model_checks.specs.Types.{field_failures, ctor_failures}
use Rattle.program_check.specs.Notes.{Left}
use Rattle.program_check.proofs.checker.Checker.check_type.Given as goal

abbrev pub invariant-fields : goal.invariant-fields
invariant-fields l = Left l.initial.self l.self (flat_map field_failures (map plain_field l.fields)) (flat_map field_failures (map plain_field (drop l.field-index l.fields)))

abbrev pub invariant-ctors : goal.invariant-ctors
invariant-ctors l = Left l.initial.self l.self (flat_map ctor_failures (map plain_ctor l.item.ctors.items)) (flat_map ctor_failures (map plain_ctor (drop l.ctor-index l.item.ctors.items)))
