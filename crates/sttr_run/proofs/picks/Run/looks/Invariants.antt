use Rattle.std.proofs.Common.{map, take, All, None}
use Rattle.sta_core.specs.Machine.{plain_rule}
use Rattle.sttr_core.specs.Terms.{plain_term}
use Rattle.sttr_run.specs.Found.{FiredStands}
use Rattle.sttr_run.specs.Picks.{AreFired}
use Rattle.sttr_run.specs.Plain.{plain_second, plain_triple}
use Rattle.sttr_run.proofs.picks.Run.looks.Given as goal

abbrev pub invariant-rules : goal.invariant-rules
invariant-rules g l = record {
  fired : AreFired g.T.Theory.atom_holds g.T.Labels.make (g.T.Theory.meaning l.self.theory.now).has l.node.constructor l.node.map.now (λ r. r) (λ r. None) (map plain_rule (take l.rule-index l.rules)) l.fired.items;
  stand : All (FiredStands g.T.Map.PartialEq.eq g.T.Labels.is_put g.T.Labels.is_chained (g.T.Theory.atom_fits l.self.theory.now) (g.T.Labels.map_fits l.self.theory.now) g.T.Labels.map_makes (plain_second l.self.second.now) (plain_term l.self.term.now) (plain_triple l.self.triple.now).second) l.fired.items;
}
