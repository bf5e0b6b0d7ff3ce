use Rattle.sta_classes.specs.Rows.{lists_of}
use Rattle.sta_min.specs.Demands.{AreChoices, free_in}
use Rattle.sta_min.proofs.demands.choices_of.Given as goal

abbrev pub invariant-places : goal.invariant-places
invariant-places l = AreChoices (free_in l.free) l.count l.j (lists_of l.choices.items)
