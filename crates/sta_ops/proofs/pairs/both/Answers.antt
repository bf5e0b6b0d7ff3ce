use Rattle.std.proofs.Common.{◌≡◌, ap, map, subst, IfOk, ◌∙◌}
use Rattle.sta_core.specs.Machine.{plain_rule}
use Rattle.sta_ops.specs.Rules.{pairs}
use Rattle.sta_ops.proofs.Fitting.{wide_moved}
use Rattle.sta_ops.proofs.pairs.both.Goals as goal

pub pairs-requires : goal.pairs-requires
pairs-requires g c = wide_moved c.args.by c.args.first.now c.args.second.now c.deref.result.now (ap (map plain_rule) c.deref.ensures.value ∙ c.in_ok-others.ensures) c.requires

pub returns : goal.returns
returns g c = subst (λ z. IfOk c.pairs.result (λ rules. map plain_rule rules.items ≡ pairs (map plain_rule c.args.first.now) z)) (ap (map plain_rule) c.deref.ensures.value ∙ c.in_ok-others.ensures) c.pairs.ensures
