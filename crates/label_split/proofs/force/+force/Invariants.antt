use Rattle.std.proofs.Common.{◌≡◌}
use Rattle.label_split.specs.Known.{joined, Forces}
use Rattle.label_split.proofs.force.+force.Given as goal

abbrev pub invariant-force_parts-each : goal.invariant-force_parts-each
invariant-force_parts-each l = Forces (λ truths. joined l.value truths l.parts ≡ l.holds) l.fn.known.signs.items l.known.signs.items
