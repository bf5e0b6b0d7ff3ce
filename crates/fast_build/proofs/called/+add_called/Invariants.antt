use Rattle.std.proofs.Common.{take}
use Rattle.fast_syntax.specs.Slices.{plain_outputs}
use Rattle.fast_build.specs.Reached.{IsGrown}
use Rattle.fast_build.specs.Called.{called_by_all}
use Rattle.fast_build.proofs.called.+add_called.Given as goal

abbrev pub invariant-parts : goal.invariant-parts
invariant-parts l = IsGrown l.initial.names.keys l.names.keys (called_by_all (plain_outputs (take l.part-index l.part-items)))
