use Rattle.sta_classes.specs.Rules.{plain_rules}
use Rattle.sta_min.proofs.Telling.{tell_more}
use Rattle.sta_min.proofs.values.all_values.Goals as goal

pub constructors-preserved : goal.constructors-preserved
constructors-preserved g c =
    tell_more (g.T.Theory.meaning c.args.theory.now) (plain_rules c.args.rules.now) c.constructors.constructor c.constructors.values.items c.push.new.self.items c.in_ok-values_at.field-0 c.constructors.invariant c.in_ok-values_at.ensures.tell c.in_ok-push.ensures.items
