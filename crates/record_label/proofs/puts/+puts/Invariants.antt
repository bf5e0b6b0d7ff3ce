use Rattle.std.proofs.Common.{take, map}
use Rattle.label_core.specs.Formula.{plain_formula}
use Rattle.record_label.specs.Maps.{put_formula, IsOutsideOf}
use Rattle.record_label.specs.PlainMaps.{plain_entry}
use Rattle.record_label.proofs.PutFacts.{Done}
use Rattle.record_label.proofs.puts.+puts.Given as goal

abbrev pub invariant-put_each-loop-part : goal.invariant-put_each-loop-part
invariant-put_each-loop-part l = Done plain_formula (put_formula (map plain_entry l.entries)) (IsOutsideOf (map plain_entry l.entries)) l.made.items (take l.part-index l.parts)
