-- Why there is no node over a row.
use Rattle.std.specs.Prelude.{ℕ, ◌+◌, ◌<◌, ◌≤◌}
use Rattle.model_tree.specs.Limits.{greatest_depth}
use Rattle.sttr_apply.specs.declared.outs.Load.{Load}
use Rattle.sttr_apply.specs.declared.outs.Load.TheVariants.{Outputs, Nodes, Depth}
use Rattle.sttr_apply.specs.declared.outs.Row.{Row}

-- it would have more nodes than are left, or be too deep
abbrev pub IsRoomless : {V : Type 0} → ℕ → Row V → Load → Type 0
IsRoomless left row Outputs = ⊥
IsRoomless left row Nodes = left < row.nodes + 1
IsRoomless left row Depth = greatest_depth ≤ row.levels
