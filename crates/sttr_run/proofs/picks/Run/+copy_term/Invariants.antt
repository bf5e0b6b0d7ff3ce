use Rattle.std.proofs.Common.{map, take}
use Rattle.sttr_run.specs.Drafts.{AllCopies}
use Rattle.sttr_run.specs.Plain.{plain_way_term}
use Rattle.sttr_run.proofs.picks.Run.+copy_term.Given as goal

abbrev pub invariant-parts : goal.invariant-parts
invariant-parts g l = AllCopies g.T.Map.PartialEq.eq (map plain_way_term l.copies.items) (map plain_way_term (take l.part-index l.part-items))
