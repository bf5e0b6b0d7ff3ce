use Rattle.std.proofs.Common.{take, length, ◌-◌}
use Rattle.label_split.specs.Numbers.{number_holds}
use Rattle.label_split.specs.Signs.{signs_at}
use Rattle.label_split.specs.Split.{IsPartly}
use Rattle.label_split.specs.Noted.{rows_of}
use Rattle.label_split.proofs.rows.refine.Given as goal

abbrev pub invariant-rest : goal.invariant-rest
invariant-rest g l = IsPartly (g.T.Theory.meaning l.theory) (signs_at (number_holds g.T.Theory.atom_holds l.atoms) (take (length l.formulas - 1) l.formulas)) (signs_at (number_holds g.T.Theory.atom_holds l.atoms) l.formulas) (rows_of l.rows.items) (rows_of l.refined.items)

abbrev pub decreases-rest : goal.decreases-rest
decreases-rest g l = length l.rows.items
