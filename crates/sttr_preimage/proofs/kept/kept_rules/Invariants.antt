use Rattle.std.proofs.Common.{ℕ, All, map, take}
use Rattle.sta_core.specs.Machine.{plain_rule}
use Rattle.sttr_core.specs.Machine.{plain_out}
use Rattle.sttr_preimage.specs.Names.{names_in}
use Rattle.sttr_preimage.specs.Kept.{IsBelow, AreKept}
use Rattle.sttr_preimage.proofs.kept.kept_rules.Given as goal

abbrev pub invariant-rules : goal.invariant-rules
invariant-rules g l = (n m : ℕ) → All (λ r. IsBelow n (plain_rule r.rule)) l.rules → AreKept g.T.Labels.make (g.T.Theory.meaning l.theory).has g.T.Map.PartialEq.eq n m (names_in l.fn.names.keys) (names_in l.names.keys) (map plain_out (take l.rule-index l.rules)) (map plain_out l.made.items)
