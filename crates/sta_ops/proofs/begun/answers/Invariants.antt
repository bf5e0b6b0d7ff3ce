use Rattle.std.proofs.Common.{◌≡◌, map, take}
use Rattle.model_sta.specs.Least.{rows_of}
use Rattle.sta_ops.specs.Opposites.{answers}
use Rattle.sta_ops.proofs.begun.answers.Given as goal

abbrev pub invariant-loop-state : goal.invariant-loop-state
invariant-loop-state g l = map (λ s. s) l.made.items ≡ answers (rows_of l.table.found) l.opposites (take l.state-index l.states) l.class
