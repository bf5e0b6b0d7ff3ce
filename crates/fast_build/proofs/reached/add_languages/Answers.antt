use Rattle.std.proofs.Common.{map, subst}
use Rattle.fast_syntax.specs.View.{plain_demand}
use Rattle.fast_syntax.specs.Plain.{plain_rule}
use Rattle.fast_build.specs.Reached.{demanded_by, demanded_in, IsGrown}
use Rattle.fast_build.proofs.Grown.{grown_step, demanded_rules_more}
use Rattle.fast_build.proofs.reached.add_languages.Goals as goal

pub rules-preserved : goal.rules-preserved
rules-preserved c =
    grown_step (λ rs. demanded_in (map plain_rule rs)) (λ r. demanded_by (map plain_demand r.given.items)) demanded_rules_more c.args.rules.now c.rules.rule-index c.rule-item.result _ _ _ c.rules-test.true c.rule-item.is c.rules.invariant
    (subst (λ ds. IsGrown c.rules.names.keys c.add_demanded.new.names.keys (demanded_by (map plain_demand ds))) c.deref.ensures.value c.in_ok-add_demanded.ensures)
