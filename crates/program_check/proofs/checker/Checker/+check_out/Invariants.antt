use Rattle.std.proofs.Common.{drop}
use Rattle.model_program.specs.Syntax.{Name}
use Rattle.fast_syntax.specs.Slices.{plain_outputs}
use Rattle.model_checks.specs.Rules.{outs_failures}
use Rattle.program_check.specs.Contexts.{items_of}
use Rattle.program_check.specs.Notes.{Left}
use Rattle.program_check.specs.Typed.{AreFound}
use Rattle.program_check.specs.Variables.{plain_vars, Kept}
use Rattle.program_check.proofs.checker.Checker.+check_out.Given as goal

abbrev pub invariant-check_outs-outs : goal.invariant-check_outs-outs
invariant-check_outs-outs l =
    let each = λ (from into : Name). outs_failures (items_of l.context) from into (plain_vars l.vars) in
    (from into : Name) → AreFound (items_of l.context) l.types from into → Kept l.initial.self l.vars → Left l.initial.self l.self (each from into (plain_outputs l.outs)) (each from into (plain_outputs (drop l.out-index l.outs)))
