use Rattle.std.proofs.Common.{All, take, length}
use Rattle.sta_core.specs.Fits.{RuleFits}
use Rattle.sta_tests.proofs.fitting.rules_fit.Given as goal

abbrev pub invariant-loop-those : goal.invariant-loop-those
invariant-loop-those g l = All (λ those. All (RuleFits l.ranks (length l.rules)) those.items) (take l.those-index l.rules)
