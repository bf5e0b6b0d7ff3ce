use Rattle.std.proofs.Common.{◌≡◌, ◌≤◌, length, map, drop}
use Rattle.model_sta.specs.Sets.{rows_meet}
use Rattle.sta_marks.specs.Rows.{rows_at}
use Rattle.sta_marks.proofs.pass.demands_met.Given as goal

abbrev pub invariant-loop-child : goal.invariant-loop-child
invariant-loop-child l =
    (l.i ≡ l.child-index) × (l.i ≤ length l.demands)
    × (rows_meet (rows_at l.marks (drop l.i l.children)) (map (λ d. d.items) (drop l.i l.demands)) ≡ rows_meet (rows_at l.marks l.children) (map (λ d. d.items) l.demands))
