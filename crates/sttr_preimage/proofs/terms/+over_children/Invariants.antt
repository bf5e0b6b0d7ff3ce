use Rattle.std.proofs.Common.{map, take}
use Rattle.sttr_core.specs.Terms.{plain_term}
use Rattle.sttr_preimage.specs.Called.{called_in}
use Rattle.sttr_preimage.proofs.Renaming.{AreOwnTerms}
use Rattle.sttr_preimage.proofs.terms.+over_children.Given as goal

abbrev pub invariant-parts : goal.invariant-parts
invariant-parts g l = AreOwnTerms g.T.Labels.make (g.T.Theory.meaning l.theory).has g.T.Map.PartialEq.eq (called_in l.fn.called.keys) (called_in l.called.keys) (map plain_term (take l.part-index l.part-items)) (map plain_term l.made.items)
