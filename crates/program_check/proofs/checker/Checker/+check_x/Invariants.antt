use Rattle.std.proofs.Common.{ℕ, ◌≤◌, ◌+◌, List, Option}
use Rattle.fast_syntax.specs.Plain.{plain_x}
use Rattle.fast_syntax.specs.Slices.{plain_children}
use Rattle.model_checks.specs.Expressions.{xs_failures}
use Rattle.program_check.specs.Contexts.{items_of, before_of}
use Rattle.program_check.specs.Typed.{IsType}
use Rattle.program_check.specs.Notes.{Left}
use Rattle.program_check.specs.Waiting.{plain_waiting, weight, weights}
use Rattle.program_check.proofs.checker.Checker.+check_x.Given as goal

abbrev pub decreases-check_x : goal.decreases-check_x
decreases-check_x l = weight (plain_x l.x.now)

abbrev pub decreases-check_as : goal.decreases-check_as
decreases-check_as l = 1 + weight (plain_x l.x.now)

abbrev pub decreases-check_children : goal.decreases-check_children
decreases-check_children l = 2 + weights (plain_children l.children.now)

abbrev pub invariant-check_children-children : goal.invariant-check_children-children
invariant-check_children-children l =
    let each = λ (type : Option (List ℕ)). xs_failures (items_of l.context) (before_of l.context) l.around type in
    record {
      noted : (type : Option (List ℕ)) → IsType (items_of l.context) l.expected type → Left l.fn.self l.self (each type (plain_children l.children)) (each type (plain_waiting l.waiting));
      few : weights (plain_waiting l.waiting) ≤ weights (plain_children l.children);
    }

abbrev pub decreases-check_children-children : goal.decreases-check_children-children
decreases-check_children-children l = weights (plain_waiting l.waiting)
