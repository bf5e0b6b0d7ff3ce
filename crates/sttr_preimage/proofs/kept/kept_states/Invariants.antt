use Rattle.std.proofs.Common.{ℕ, All, map, take}
use Rattle.sta_core.specs.Machine.{plain_rule}
use Rattle.sttr_core.specs.Machine.{plain_out}
use Rattle.sttr_preimage.specs.Names.{names_in}
use Rattle.sttr_preimage.specs.Kept.{IsBelow, AreAllKept}
use Rattle.sttr_preimage.proofs.kept.kept_states.Given as goal

abbrev pub invariant-states : goal.invariant-states
invariant-states g l = (n m : ℕ) → All (λ those. All (λ r. IsBelow n (plain_rule r.rule)) those.items) l.states
    → AreAllKept g.T.Labels.make (g.T.Theory.meaning l.theory).has g.T.Map.PartialEq.eq n m (names_in l.fn.names.keys) (names_in l.names.keys) (map (λ those. map plain_out those.items) (take l.rules-index l.states)) (map (λ those. map plain_out those.items) l.made.items)
