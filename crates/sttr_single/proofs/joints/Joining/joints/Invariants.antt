use Rattle.std.proofs.Common.{◌<◌, []}
use Rattle.sttr_single.specs.Joints.{AddsJoints}
use Rattle.sttr_single.proofs.joints.Joining.joints.Given as goal

abbrev pub invariant-states : goal.invariant-states
invariant-states g l = AddsJoints g.T.Theory.atom_holds g.T.Map.PartialEq.eq (g.T.Theory.meaning l.self.theory.now).has l.self.sttr.now (λ q i j. q < l.state) [] l.joints.items
