use Rattle.std.proofs.Common.{◌≡◌, map, take}
use Rattle.fast_syntax.specs.View.{plain_demand, plain_name}
use Rattle.fast_build.specs.Numbers.{number_in, numbers_for_each}
use Rattle.fast_build.proofs.numbers.demands_on_each.Given as goal

abbrev pub invariant-vars : goal.invariant-vars
invariant-vars l = map (λ d. d.items) l.demands.items ≡ numbers_for_each (number_in l.names.keys) (map plain_demand l.given) (map plain_name (take l.var-index l.vars))
