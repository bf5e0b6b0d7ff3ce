use Rattle.std.proofs.Common.{◌≡◌, ◌<◌}
use Rattle.sttr_single.specs.Joints.{AddsJoints}
use Rattle.sttr_single.proofs.joints.Joining.add_joints_with.Given as goal

abbrev pub invariant-seconds : goal.invariant-seconds
invariant-seconds g l = AddsJoints g.T.Theory.atom_holds g.T.Map.PartialEq.eq (g.T.Theory.meaning l.self.theory.now).has l.self.sttr.now (λ q i j. (q ≡ l.state) × (i ≡ l.first) × (j < l.second)) l.fn.joints.items l.joints.items
