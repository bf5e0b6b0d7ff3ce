use Rattle.std.proofs.Common.{◌≤◌, length, drop, All}
use Rattle.sta_core.specs.Sta.{automaton_of}
use Rattle.sttr_core.specs.Terms.{plain_term}
use Rattle.sttr_run.specs.Found.{PickStands}
use Rattle.sttr_run.specs.Picks.{ArePicks}
use Rattle.sttr_run.specs.Plain.{plain_second, plain_triple}
use Rattle.sttr_run.proofs.picks.Run.picks.Given as goal

abbrev pub invariant-states : goal.invariant-states
invariant-states g l = record {
  low : l.left ≤ length l.states;
  picks : ArePicks g.T.Theory.atom_holds g.T.Labels.make (g.T.Theory.meaning l.self.theory.now).has l.node.constructor l.node.map.now (automaton_of g.T.Theory.atom_holds (plain_second l.self.second.now).looks) (drop l.left l.states) l.picks.items;
  stand : All (PickStands g.T.Map.PartialEq.eq g.T.Labels.is_put g.T.Labels.is_chained (g.T.Theory.atom_fits l.self.theory.now) (g.T.Labels.map_fits l.self.theory.now) g.T.Labels.map_makes (plain_second l.self.second.now) (plain_term l.self.term.now) (plain_triple l.self.triple.now).second) l.picks.items;
}

abbrev pub decreases-states : goal.decreases-states
decreases-states g l = l.left
