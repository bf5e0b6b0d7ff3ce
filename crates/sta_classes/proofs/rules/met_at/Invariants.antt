use Rattle.std.proofs.Common.{◌≡◌}
use Rattle.sta_core.specs.Machine.{plain_rule}
use Rattle.sta_classes.specs.Applying.{meets_at}
use Rattle.sta_classes.proofs.Loops.{filled}
use Rattle.sta_classes.proofs.rules.met_at.Given as goal

abbrev pub invariant-loop-i : goal.invariant-loop-i
invariant-loop-i g l = l.made ≡ filled (λ x. meets_at l.place l.row (plain_rule x.rule.now)) l.i l.list
