use Rattle.std.proofs.Common.{map, [], ◌∷◌}
use Rattle.fast_syntax.specs.View.{plain_demand}
use Rattle.fast_build.specs.Reached.{demanded_by}
use Rattle.fast_build.proofs.Grown.{grown_step, demanded_more}
use Rattle.fast_build.proofs.reached.add_demanded.Goals as goal

pub given-preserved : goal.given-preserved
given-preserved c =
    grown_step (λ ds. demanded_by (map plain_demand ds)) (λ d. d.language.text ∷ []) demanded_more c.args.given.now c.given.demand-index c.demand-item.result _ _ _ c.given-test.true c.demand-item.is c.given.invariant c.in_ok-add_name.ensures
