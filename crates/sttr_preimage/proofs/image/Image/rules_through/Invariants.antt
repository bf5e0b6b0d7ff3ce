use Rattle.std.proofs.Common.{map, take}
use Rattle.sttr_core.specs.Machine.{plain_out}
use Rattle.sttr_run.specs.Plain.{plain_second, plain_triple}
use Rattle.sttr_preimage.specs.Names.{names_in}
use Rattle.sttr_preimage.specs.Called.{called_in}
use Rattle.sttr_preimage.specs.Outs.{HasOutsOver}
use Rattle.sttr_preimage.specs.Through.{IsThroughMap}
use Rattle.sttr_preimage.proofs.image.Image.rules_through.Given as goal

abbrev pub invariant-rules : goal.invariant-rules
invariant-rules g l =
    HasOutsOver g.T.Labels.is_put g.T.Labels.make (g.T.Theory.meaning l.self.theory.now) (g.T.Theory.atom_fits l.self.theory.now) l.self.sttr.now (plain_second l.self.second) (IsThroughMap g.T.Map.PartialEq.eq g.T.Labels.is_chained (g.T.Labels.map_fits l.self.theory.now) g.T.Labels.map_makes l.self.sttr.now (plain_second l.self.second))
    (names_in l.fn.names.keys) (names_in l.names.keys) (called_in l.fn.called.keys) (called_in l.called.keys) (plain_triple l.triple) (map plain_out (take l.rule-index l.rule-items)) (map plain_out l.rules.items)
