use Rattle.sttr_run.specs.Plain.{plain_second}
use Rattle.std.proofs.Common.{map, take, None}
use Rattle.model_sttr.specs.Transducer.{run}
use Rattle.sta_core.specs.Machine.{plain_rule}
use Rattle.sttr_core.specs.Machine.{plain_out}
use Rattle.sttr_preimage.specs.Names.{names_in}
use Rattle.sttr_preimage.specs.Images.{HasRulesOver}
use Rattle.sttr_preimage.proofs.image.Image.middle_rules.Given as goal

abbrev pub invariant-rules : goal.invariant-rules
invariant-rules g l = HasRulesOver g.T.Labels.is_put g.T.Labels.make (g.T.Theory.meaning l.self.theory.now) (g.T.Theory.atom_fits l.self.theory.now) l.self.sttr.now (plain_second l.self.second) (names_in l.initial.names.keys) (names_in l.names.keys) (record { first = run l.state; all = l.all; second = None }) (map plain_out (take l.rule-index l.rule-items)) (map plain_rule l.rules.items)
