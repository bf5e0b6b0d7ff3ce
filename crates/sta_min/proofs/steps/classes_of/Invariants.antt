use Rattle.std.specs.Bool.{beq}
use Rattle.std.specs.Cmp.Lexicographic.{pointwise}
use Rattle.sta_classes.specs.Plain.{class_row}
use Rattle.sta_min.proofs.FirstOnes.{IsFirstMap}
use Rattle.sta_min.proofs.Stepping.{decides_rows}
use Rattle.sta_min.proofs.steps.classes_of.Given as goal

abbrev pub invariant-classes : goal.invariant-classes
invariant-classes g l = IsFirstMap (λ v. v.items) (pointwise beq) decides_rows (class_row l.table) l.class l.classes
