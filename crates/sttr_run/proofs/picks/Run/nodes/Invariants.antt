use Rattle.std.proofs.Common.{length}
use Rattle.std.specs.Option.{option_map}
use Rattle.sttr_core.specs.Terms.{plain_term}
use Rattle.sttr_run.specs.Found.{MapStands, IsNodeOver, chained}
use Rattle.sttr_run.specs.Plain.{plain_second, plain_triple}
use Rattle.sttr_run.proofs.Popping.{EachSoFar}
use Rattle.sttr_run.proofs.picks.Run.nodes.Given as goal

abbrev pub invariant-rows : goal.invariant-rows
invariant-rows g l = EachSoFar (IsNodeOver g.T.Labels.make (g.T.Theory.meaning l.self.theory.now).has (MapStands g.T.Map.PartialEq.eq g.T.Labels.is_put g.T.Labels.is_chained (g.T.Theory.atom_fits l.self.theory.now) (g.T.Labels.map_fits l.self.theory.now) g.T.Labels.map_makes (plain_second l.self.second.now) (plain_term l.self.term.now) (plain_triple l.self.triple.now).second) l.constructor (chained g.T.Labels.make l.first (option_map (λ n. n.now) l.then))) l.fn.rows.items l.rows.items l.made.items

abbrev pub decreases-rows : goal.decreases-rows
decreases-rows g l = length l.rows.items
