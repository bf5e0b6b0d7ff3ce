use Rattle.std.proofs.Common.{◌≡◌, ◌<◌}
use Rattle.fast_build.specs.Items.{items_of}
use Rattle.fast_compose.specs.Copying.{IsFirst}
use Rattle.fast_compose.proofs.copying.first_of_rules.Given as goal

abbrev pub invariant-rules : goal.invariant-rules
invariant-rules l = IsFirst (items_of l.checked) (λ q i. (q ≡ l.name) × (i < l.place)) l.first
