use Rattle.std.proofs.Common.{[], map, take, Contains}
use Rattle.sttr_run.specs.Picks.{wanted_in}
use Rattle.sttr_run.specs.Sets.{Grown}
use Rattle.sttr_run.proofs.picks.wanted.Given as goal

abbrev pub invariant-demands : goal.invariant-demands
invariant-demands l = Grown [] l.all.states.items (Contains (wanted_in (map (λ d. map (λ s. s.items) d.now) (take l.demand-index l.demands)) l.child))
