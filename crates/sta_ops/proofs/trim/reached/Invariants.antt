use Rattle.sta_classes.specs.Rules.{plain_rules}
use Rattle.sta_ops.proofs.Trimming.{AreNamedTo}
use Rattle.sta_ops.proofs.trim.reached.Given as goal

abbrev pub invariant-places : goal.invariant-places
invariant-places g l = AreNamedTo l.sta.rules l.initial.met.keys l.met.keys (plain_rules l.rules.items) l.place
