use Rattle.std.proofs.Common.{◌*◌, ◌+◌, All, take}
use Rattle.fast_syntax.specs.Plain.{plain_x}
use Rattle.fast_syntax.specs.Slices.{plain_children}
use Rattle.fast_build.specs.Items.{items_of}
use Rattle.model_run.specs.Items.{AreComposable}
use Rattle.fast_compose.proofs.Parts.{weight, weights}
use Rattle.fast_compose.proofs.checks.+composed.Given as goal

abbrev pub decreases-composed : goal.decreases-composed
decreases-composed l = 2 * weight (plain_x l.e.now)

abbrev pub decreases-composed_each : goal.decreases-composed_each
decreases-composed_each l = 2 * weights (plain_children l.xs.now) + 1

abbrev pub invariant-composed_each-xs : goal.invariant-composed_each-xs
invariant-composed_each-xs l = All (λ x. AreComposable (items_of l.checked) (plain_x x)) (take l.x-index l.xs)
