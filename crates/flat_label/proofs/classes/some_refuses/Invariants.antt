use Rattle.std.proofs.Common.{◌≡◌, drop}
use Rattle.std.specs.List.{list_any}
use Rattle.flat_label.specs.Sides.{is_refused}
use Rattle.flat_label.proofs.classes.some_refuses.Given as goal

abbrev pub invariant-loop-literal : goal.invariant-loop-literal
invariant-loop-literal l = list_any (is_refused l.sides) (drop l.literal-index l.literals) ≡ list_any (is_refused l.sides) l.literals
