use Rattle.std.proofs.Common.{List, ◌∷◌, map, ap}
use Rattle.label_core.specs.Formula.{plain_formula}
use Rattle.record_label.specs.declared.maps.RowEntry.{RowEntry}
use Rattle.record_label.specs.PlainMaps.{plain_entry}
use Rattle.record_label.specs.Maps.{formulas_in}
use Rattle.record_label.proofs.PutFacts.{no_formula}
use Rattle.record_label.proofs.Looking.{sought_past, sought_other}
use Rattle.record_label.proofs.puts.formula_at.Goals as goal
use Rattle.record_label.proofs.puts.formula_at.Goals.{in-Truth+else-before-eq0, in_default}

pub loop-entry-preserved : goal.loop-entry-preserved
loop-entry-preserved c =
    let of_kind = λ (es : List RowEntry). formulas_in (map plain_entry es) in
    elim c.match-entry.branch [
      | in-Truth+else-before-eq0 w ↦
          sought_past of_kind c.args.entries.now c.loop-entry.entry-index c.entry-item.result c.loop-entry-test.true c.entry-item.is c.loop-entry.before _ c.loop-entry.invariant (plain_formula w.in-Truth.formula) c.match-entry.before (λ rest. ap (λ u. of_kind (u ∷ rest)) w.in-Truth.is) w.if-before-eq0.false w.before-is
      | in_default w ↦
          sought_other of_kind c.args.entries.now c.loop-entry.entry-index c.entry-item.result c.loop-entry-test.true c.entry-item.is c.loop-entry.before _ c.loop-entry.invariant c.match-entry.before (λ rest. no_formula c.entry-item.result rest w.in_default.not-Truth) w.before-is
    ]
