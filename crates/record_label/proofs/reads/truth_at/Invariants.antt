use Rattle.std.proofs.Common.{◌≡◌, drop, map, get_or, false}
use Rattle.fast_tree.specs.Entries.{field_of}
use Rattle.record_label.specs.Rows.{truths_in}
use Rattle.record_label.proofs.reads.truth_at.Given as goal

abbrev pub invariant-loop-value : goal.invariant-loop-value
invariant-loop-value l = get_or (truths_in (map field_of (drop l.value-index l.values))) l.before false ≡ get_or (truths_in (map field_of l.values)) l.number false
