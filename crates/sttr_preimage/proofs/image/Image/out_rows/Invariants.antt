use Rattle.std.proofs.Common.{map}
use Rattle.sttr_core.specs.Machine.{plain_out}
use Rattle.sttr_run.specs.Plain.{plain_second}
use Rattle.sttr_preimage.specs.Names.{names_in}
use Rattle.sttr_preimage.specs.Called.{called_in, KeepsOutput}
use Rattle.sttr_preimage.specs.Images.{HasOne}
use Rattle.sttr_preimage.specs.Outs.{OutsSoFar}
use Rattle.sttr_preimage.specs.Through.{IsThroughMap}
use Rattle.sttr_preimage.proofs.image.Image.out_rows.Given as goal

abbrev pub invariant-places : goal.invariant-places
invariant-places g l =
    OutsSoFar g.T.Labels.is_put g.T.Labels.make (g.T.Theory.meaning l.self.theory.now) (g.T.Theory.atom_fits l.self.theory.now) l.self.sttr.now (plain_second l.self.second) (IsThroughMap g.T.Map.PartialEq.eq g.T.Labels.is_chained (g.T.Labels.map_fits l.self.theory.now) g.T.Labels.map_makes l.self.sttr.now (plain_second l.self.second))
    (HasOne KeepsOutput (called_in l.fn.called.keys)) (names_in l.fn.names.keys) (names_in l.names.keys) (called_in l.fn.called.keys) (called_in l.called.keys) (map (λ those. map plain_out those.items) l.rows.items) l.place
