use Rattle.std.proofs.Common.{map, take}
use Rattle.fast_syntax.specs.View.{plain_demand}
use Rattle.fast_build.specs.Reached.{demanded_by, IsGrown}
use Rattle.fast_build.proofs.reached.add_demanded.Given as goal

abbrev pub invariant-given : goal.invariant-given
invariant-given l = IsGrown l.initial.names.keys l.names.keys (demanded_by (map plain_demand (take l.demand-index l.given)))
