use Rattle.std.proofs.Common.{map, take}
use Rattle.sttr_run.specs.Drafts.{AddsCopies}
use Rattle.sttr_run.specs.Plain.{plain_way_term}
use Rattle.sttr_run.proofs.picks.Run.add_terms.Given as goal

abbrev pub invariant-terms : goal.invariant-terms
invariant-terms g l = AddsCopies g.T.Map.PartialEq.eq (map plain_way_term l.to.items) (map plain_way_term l.fn.to.items) (map plain_way_term (take l.term-index l.terms))
