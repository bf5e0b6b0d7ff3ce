use Rattle.std.proofs.Common.{◌≡◌, map, drop}
use Rattle.std.specs.List.{flat_map}
use Rattle.fast_syntax.specs.View.{plain_demand}
use Rattle.model_program.specs.Syntax.{Name}
use Rattle.model_checks.specs.Rules.{demand_failures}
use Rattle.program_check.specs.Contexts.{items_of}
use Rattle.program_check.specs.Notes.{Left}
use Rattle.program_check.specs.Typed.{type_number}
use Rattle.program_check.specs.Variables.{plain_vars, Kept}
use Rattle.program_check.proofs.checker.Checker.check_given.Given as goal

abbrev pub invariant-given : goal.invariant-given
invariant-given l =
    let each = λ (from : Name). demand_failures (items_of l.context) from (plain_vars l.vars) in
    (from : Name) → l.of ≡ type_number (items_of l.context) from.text → Kept l.initial.self l.vars → Left l.initial.self l.self (flat_map (each from) (map plain_demand l.given)) (flat_map (each from) (map plain_demand (drop l.demand-index l.given)))
