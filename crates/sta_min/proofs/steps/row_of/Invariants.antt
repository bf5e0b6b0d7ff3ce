use Rattle.std.proofs.Common.{◌≡◌, take}
use Rattle.sta_classes.specs.Plain.{class_row}
use Rattle.sta_min.proofs.steps.row_of.Given as goal

abbrev pub invariant-states : goal.invariant-states
invariant-states g l = l.row.items ≡ take l.state (class_row l.table l.class)
