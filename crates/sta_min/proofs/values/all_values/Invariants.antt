use Rattle.sta_classes.specs.Rows.{lists_of}
use Rattle.sta_classes.specs.Rules.{plain_rules}
use Rattle.sta_min.specs.Values.{TellAllApart}
use Rattle.sta_min.proofs.values.all_values.Given as goal

abbrev pub invariant-constructors : goal.invariant-constructors
invariant-constructors g l = TellAllApart (g.T.Theory.meaning l.theory) (plain_rules l.rules) l.constructor (lists_of l.values.items)
