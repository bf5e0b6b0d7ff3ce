use Rattle.std.proofs.Common.{take}
use Rattle.label_split.specs.Numbers.{number_holds}
use Rattle.label_split.specs.Signs.{signs_at}
use Rattle.label_split.specs.Split.{SplitsInto}
use Rattle.label_split.specs.Noted.{rows_of}
use Rattle.label_split.proofs.rows.split_numbered.Given as goal

abbrev pub invariant-loop-i : goal.invariant-loop-i
invariant-loop-i g l = SplitsInto (g.T.Theory.meaning l.theory) (signs_at (number_holds g.T.Theory.atom_holds l.atoms) (take l.i l.formulas)) (rows_of l.rows.items)
