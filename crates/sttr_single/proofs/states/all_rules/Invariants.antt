use Rattle.std.proofs.Common.{◌≡◌, map, take}
use Rattle.sta_core.specs.Machine.{plain_rule}
use Rattle.sttr_single.specs.Joints.{rules_in}
use Rattle.sttr_single.proofs.states.all_rules.Given as goal

abbrev pub invariant-loop-joint : goal.invariant-loop-joint
invariant-loop-joint g l = map plain_rule l.rules.items ≡ rules_in (take l.joint-index l.joints)
