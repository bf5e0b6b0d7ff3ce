use Rattle.std.proofs.Common.{◌≡◌, map, take}
use Rattle.fast_syntax.specs.View.{plain_demand}
use Rattle.fast_build.specs.Numbers.{number_in, numbers_for}
use Rattle.fast_build.proofs.numbers.demands_on.Given as goal

abbrev pub invariant-given : goal.invariant-given
invariant-given l = l.numbers.items ≡ numbers_for (number_in l.names.keys) (map plain_demand (take l.demand-index l.given)) l.var
