use Rattle.std.proofs.Common.{map, take}
use Rattle.sttr_core.specs.Terms.{plain_term}
use Rattle.sttr_preimage.proofs.Renaming.{AreTermCopies}
use Rattle.sttr_preimage.proofs.terms.+copied.Given as goal

abbrev pub invariant-parts : goal.invariant-parts
invariant-parts g l = AreTermCopies g.T.Labels.make (g.T.Theory.meaning l.theory).has g.T.Map.PartialEq.eq (map plain_term (take l.part-index l.part-items)) (map plain_term l.made.items)
