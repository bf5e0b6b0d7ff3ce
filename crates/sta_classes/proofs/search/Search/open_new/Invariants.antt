use Rattle.sta_classes.specs.Rows.{lists_of}
use Rattle.sta_classes.specs.Searched.{GoesOn, HasNewBefore}
use Rattle.sta_classes.proofs.Runs.{OffersTo}
use Rattle.sta_classes.proofs.search.Search.open_new.Given as goal

abbrev pub invariant-constructors : goal.invariant-constructors
invariant-constructors g l = GoesOn (g.T.Theory.meaning l.self.theory.now) l.self.ranks.now l.self.rules.now l.self.own.now l.self.most l.known l.fn.offers l.offers (HasNewBefore (g.T.Theory.meaning l.self.theory.now) l.self.ranks.now l.self.rules.now l.known.classes.items l.known.places.items l.constructor)

abbrev pub invariant-lists : goal.invariant-lists
invariant-lists g l = GoesOn (g.T.Theory.meaning l.self.theory.now) l.self.ranks.now l.self.rules.now l.self.own.now l.self.most l.known l.fn.offers l.offers (OffersTo (g.T.Theory.meaning l.self.theory.now) l.self.ranks.now l.self.rules.now l.self.own.now l.self.most l.known l.fn.offers l.constructor (lists_of l.children-items) l.children-index)
