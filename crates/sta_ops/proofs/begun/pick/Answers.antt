use Rattle.std.proofs.Common.{arith, refl}
use Rattle.std.specs.Bool.{beq}
use Rattle.std.specs.Cmp.{booleans_Decides}
use Rattle.std.specs.Cmp.Lexicographic.{pointwise}
use Rattle.std.proofs.lemmas.Slice.Eq.{slice_eq-Decides}
use Rattle.std.proofs.lemmas.List.{length-map}
use Rattle.model_sta.specs.Least.{rows_of}
use Rattle.sta_ops.proofs.Picking.{next_picked, are_picked}
use Rattle.sta_ops.proofs.begun.pick.Goals as goal

pub classes-preserved : goal.classes-preserved
classes-preserved g c =
    next_picked (rows_of c.args.table.now.found) c.args.states.now (λ v. v.items) c.classes.class c.classes.picked.items c.classes.seen.keys c.classes.invariant c.in_ok-signs.field-0 c.in_ok-signs.ensures (λ x y. pointwise beq x.items y.items)
    (λ x y h. (slice_eq-Decides booleans_Decides x.items y.items (pointwise beq x.items y.items) refl).0 h) c.in_ok-new.new c.note.new.picked.items c.insert.new.self.keys c.in_ok-new.ensures.added c.in_ok-new.ensures.keys c.in_ok-note.ensures

pub returns : goal.returns
returns g c =
    are_picked (rows_of c.args.table.now.found) c.args.states.now (λ v. v.items) c.classes.class c.classes.picked.items c.classes.seen.keys (omega (arith, length-map c.args.table.now.found (λ f. f.row), c.classes-test.false, c.len-class-end.ensures))
    (omega (arith, length-map c.args.table.now.found (λ f. f.row), c.classes-test.false, c.len-class-end.ensures)) c.classes.invariant
