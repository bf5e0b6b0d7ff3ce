use Rattle.std.proofs.Common.{◌≡◌, ◌≤◌, length, map, drop}
use Rattle.model_sta.specs.Sets.{rows_meet}
use Rattle.model_sta.specs.Least.{rows_at}
use Rattle.sta_min.proofs.steps.demands_met.Given as goal

abbrev pub invariant-loop-child : goal.invariant-loop-child
invariant-loop-child g l =
    (l.i ≡ l.child-index) × (l.i ≤ length l.demands)
    × (rows_meet (rows_at l.table.found (drop l.i l.children)) (map (λ d. d.items) (drop l.i l.demands)) ≡ rows_meet (rows_at l.table.found l.children) (map (λ d. d.items) l.demands))
