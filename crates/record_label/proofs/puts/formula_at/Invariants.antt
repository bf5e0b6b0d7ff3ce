use Rattle.std.proofs.Common.{◌≡◌, drop, map}
use Rattle.std.specs.List.{slice_get}
use Rattle.record_label.specs.Maps.{formulas_in}
use Rattle.record_label.specs.PlainMaps.{plain_entry}
use Rattle.record_label.proofs.puts.formula_at.Given as goal

abbrev pub invariant-loop-entry : goal.invariant-loop-entry
invariant-loop-entry l = slice_get (formulas_in (map plain_entry (drop l.entry-index l.entries))) l.before ≡ slice_get (formulas_in (map plain_entry l.entries)) l.number
