use Rattle.std.proofs.Common.{◌≡◌, ◌≤◌, length, map, drop}
use Rattle.model_sta.specs.Sets.{rows_meet}
use Rattle.sta_classes.specs.Rows.{class_rows_at}
use Rattle.sta_classes.proofs.class.demands_met.Given as goal

abbrev pub invariant-loop-child : goal.invariant-loop-child
invariant-loop-child g l =
    (l.i ≡ l.child-index) × (l.i ≤ length l.demands)
    × (rows_meet (class_rows_at l.found (drop l.i l.children)) (map (λ d. d.items) (drop l.i l.demands)) ≡ rows_meet (class_rows_at l.found l.children) (map (λ d. d.items) l.demands))
