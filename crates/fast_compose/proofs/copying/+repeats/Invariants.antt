use Rattle.std.proofs.Common.{take, false}
use Rattle.fast_syntax.specs.Slices.{plain_outputs}
use Rattle.fast_compose.specs.Copying.{uses_in_all, Repeats}
use Rattle.fast_compose.proofs.copying.+repeats.Given as goal

abbrev pub invariant-parts : goal.invariant-parts
invariant-parts l = Repeats false l.initial.seen.keys l.seen.keys (uses_in_all (plain_outputs (take l.part-index l.part-items)))
