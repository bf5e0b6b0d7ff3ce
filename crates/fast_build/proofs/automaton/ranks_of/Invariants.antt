use Rattle.std.proofs.Common.{◌≡◌, map, take}
use Rattle.fast_build.proofs.automaton.ranks_of.Given as goal

abbrev pub invariant-ctors : goal.invariant-ctors
invariant-ctors l = l.ranks.items ≡ map (λ c. c.rank) (take l.ctor-index l.constructors)
