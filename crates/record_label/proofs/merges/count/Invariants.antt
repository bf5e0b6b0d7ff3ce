use Rattle.std.proofs.Common.{◌≡◌, ◌+◌, ◌≤◌, drop, map}
use Rattle.fast_tree.specs.Signatures.{plain_sort}
use Rattle.record_label.specs.Rows.{count_of}
use Rattle.record_label.proofs.merges.count.Given as goal

abbrev pub invariant-loop-other : goal.invariant-loop-other
invariant-loop-other l =
    (l.count ≤ l.other-index) × (l.count + count_of (plain_sort l.sort) (map plain_sort (drop l.other-index l.sorts)) ≡ count_of (plain_sort l.sort) (map plain_sort l.sorts))
