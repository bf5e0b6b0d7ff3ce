use Rattle.std.proofs.Common.{◌≡◌, ◌∷◌, [], map, take}
use Rattle.sta_core.specs.Machine.{plain_rule}
use Rattle.sta_classes.specs.Rules.{plain_rules}
use Rattle.sttr_single.proofs.states.each_state.Given as goal

abbrev pub invariant-loop-joint : goal.invariant-loop-joint
invariant-loop-joint g l = plain_rules l.states.items ≡ map (λ x. plain_rule x.rule ∷ []) (take l.joint-index l.joints)
