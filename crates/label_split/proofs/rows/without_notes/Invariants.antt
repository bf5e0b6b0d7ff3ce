use Rattle.std.proofs.Common.{◌≡◌}
use Rattle.label_split.specs.Noted.{rows_of}
use Rattle.label_split.proofs.rows.without_notes.Given as goal

abbrev pub invariant-loop-one : goal.invariant-loop-one
invariant-loop-one g l = l.rows.items ≡ rows_of l.yielded
