use Rattle.std.proofs.Common.{ℕ, [], ◌∷◌, All, map, take}
use Rattle.sta_core.specs.Machine.{plain_rule}
use Rattle.sttr_core.specs.Machine.{plain_out}
use Rattle.sttr_preimage.specs.Names.{names_in}
use Rattle.sttr_preimage.specs.Kept.{IsBelow, AreJoint}
use Rattle.sttr_preimage.proofs.kept.joint_with.Given as goal

abbrev pub invariant-others : goal.invariant-others
invariant-others g l = (n m : ℕ) → IsBelow n (plain_rule l.rule.rule) → All (λ s. IsBelow m (plain_rule s)) l.others
    → AreJoint g.T.Labels.make (g.T.Theory.meaning l.theory).has g.T.Map.PartialEq.eq n m g.T.Theory.atom_holds (names_in l.fn.names.keys) (names_in l.names.keys) (plain_out l.rule ∷ []) (map plain_rule (take l.other-index l.others)) (map plain_out l.made.items)
