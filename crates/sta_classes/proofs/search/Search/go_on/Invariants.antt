use Rattle.std.proofs.Common.{◌-◌, length}
use Rattle.sta_classes.specs.Searched.{IsGoing}
use Rattle.sta_classes.proofs.search.Search.go_on.Given as goal

abbrev pub invariant-turns : goal.invariant-turns
invariant-turns g l = IsGoing (g.T.Theory.meaning l.self.theory.now) l.self.ranks.now l.self.rules.now l.self.own.now l.self.most l.course

abbrev pub decreases-turns : goal.decreases-turns
decreases-turns g l = l.self.most - length l.course.known.classes.items
