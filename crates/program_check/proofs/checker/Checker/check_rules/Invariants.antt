use Rattle.std.proofs.Common.{map, drop}
use Rattle.std.specs.List.{flat_map}
use Rattle.model_program.specs.Syntax.{Name}
use Rattle.fast_syntax.specs.Plain.{plain_rule}
use Rattle.model_checks.specs.Rules.{rule_failures}
use Rattle.program_check.specs.Contexts.{items_of}
use Rattle.program_check.specs.Notes.{Left}
use Rattle.program_check.specs.Typed.{AreFound}
use Rattle.program_check.proofs.checker.Checker.check_rules.Given as goal

abbrev pub invariant-rules : goal.invariant-rules
invariant-rules l =
    let each = λ (from : Name). rule_failures (items_of l.context) from in
    (from : Name) → AreFound (items_of l.context) l.types from from → Left l.initial.self l.self (flat_map (each from) (map plain_rule l.rules)) (flat_map (each from) (map plain_rule (drop l.rule-index l.rules)))
