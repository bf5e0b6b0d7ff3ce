use Rattle.std.proofs.Common.{All, take}
use Rattle.sta_core.specs.Fits.{RuleFits}
use Rattle.sta_tests.proofs.fitting.state_fits.Given as goal

abbrev pub invariant-loop-rule : goal.invariant-loop-rule
invariant-loop-rule g l = All (RuleFits l.ranks l.states) (take l.rule-index l.rules)
