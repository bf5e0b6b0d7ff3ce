use Rattle.std.proofs.Common.{◌≡◌, length, sym, subst, arith}
use Rattle.std.specs.Bool.{beq}
use Rattle.std.specs.Cmp.Lexicographic.{pointwise}
use Rattle.sta_classes.specs.Plain.{class_row}
use Rattle.sta_min.proofs.FirstOnes.{IsFirstMap, next_map}
use Rattle.sta_min.proofs.Stepping.{decides_rows, are_rows}
use Rattle.sta_min.proofs.steps.classes_of.Goals as goal

pub classes-preserved : goal.classes-preserved
classes-preserved g c =
    (next_map (λ v. v.items) (pointwise beq) decides_rows (class_row c.args.table.now) c.classes.class c.classes.classes c.number_of.new.seen c.classes.invariant c.in_ok-row.row (sym c.in_ok-row.ensures) c.in_ok-number_of.field-0 c.in_ok-number_of.ensures).map

pub returns : goal.returns
returns g c =
    are_rows c.args.table.now (length c.args.table.now.found) c.classes.classes
    (subst (λ n. IsFirstMap (λ v. v.items) (pointwise beq) decides_rows (class_row c.args.table.now) n c.classes.classes) (let e : c.classes.class ≡ length c.args.table.now.found = omega (arith, c.classes-test.false, c.classes.auto.class-end, c.len-class-end.ensures) in e) c.classes.invariant)
