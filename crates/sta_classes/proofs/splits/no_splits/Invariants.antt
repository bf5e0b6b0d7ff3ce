use Rattle.sta_classes.specs.Splits.{AreFresh}
use Rattle.sta_classes.proofs.splits.no_splits.Given as goal

abbrev pub invariant-constructors : goal.invariant-constructors
invariant-constructors g l = AreFresh l.counter l.splits.items
