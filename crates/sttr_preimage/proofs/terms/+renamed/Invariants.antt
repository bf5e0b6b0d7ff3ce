use Rattle.std.proofs.Common.{map, take}
use Rattle.sttr_core.specs.Terms.{plain_term}
use Rattle.sttr_run.specs.Plain.{plain_way_term}
use Rattle.sttr_preimage.specs.Called.{called_in, CallsOnly}
use Rattle.sttr_preimage.proofs.Renaming.{AreRenamed}
use Rattle.sttr_preimage.proofs.terms.+renamed.Given as goal

abbrev pub invariant-parts : goal.invariant-parts
invariant-parts g l = CallsOnly (plain_way_term l.term) → AreRenamed g.T.Labels.make (g.T.Theory.meaning l.theory).has g.T.Map.PartialEq.eq (called_in l.fn.called.keys) (called_in l.called.keys) (map plain_way_term (take l.part-index l.part-items)) (map plain_term l.made.items)
