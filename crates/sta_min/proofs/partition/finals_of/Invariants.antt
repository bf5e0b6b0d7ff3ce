use Rattle.std.proofs.Common.{get_or}
use Rattle.model_sta.specs.Sets.{has}
use Rattle.sta_classes.specs.Plain.{class_row}
use Rattle.sta_min.proofs.Finals.{AreFinals}
use Rattle.sta_min.proofs.partition.finals_of.Given as goal

abbrev pub invariant-firsts : goal.invariant-firsts
invariant-firsts g l = AreFinals (λ i. has (class_row l.table (get_or l.firsts i 0)) l.state) l.i l.finals.items
