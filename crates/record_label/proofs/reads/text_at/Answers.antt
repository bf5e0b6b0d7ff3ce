use Rattle.std.proofs.Common.{List, ◌∷◌, map, ap}
use Rattle.fast_tree.specs.declared.label.Value.{Value}
use Rattle.fast_tree.specs.Entries.{field_of}
use Rattle.record_label.specs.Rows.{texts_in}
use Rattle.record_label.proofs.RowFacts.{no_text}
use Rattle.record_label.proofs.Looking.{sought_past, sought_other}
use Rattle.record_label.proofs.reads.text_at.Goals as goal
use Rattle.record_label.proofs.reads.text_at.Goals.{in-Text+else-before-eq0, in_default}

pub loop-value-preserved : goal.loop-value-preserved
loop-value-preserved c =
    let of_kind = λ (vs : List Value). texts_in (map field_of vs) in
    elim c.match-value.branch [
      | in-Text+else-before-eq0 w ↦
          sought_past of_kind c.args.values.now c.loop-value.value-index c.value-item.result c.loop-value-test.true c.value-item.is c.loop-value.before _ c.loop-value.invariant w.in-Text.text c.match-value.before (λ rest. ap (λ u. of_kind (u ∷ rest)) w.in-Text.is) w.if-before-eq0.false w.before-is
      | in_default w ↦
          sought_other of_kind c.args.values.now c.loop-value.value-index c.value-item.result c.loop-value-test.true c.value-item.is c.loop-value.before _ c.loop-value.invariant c.match-value.before (λ rest. no_text c.value-item.result rest w.in_default.not-Text) w.before-is
    ]
