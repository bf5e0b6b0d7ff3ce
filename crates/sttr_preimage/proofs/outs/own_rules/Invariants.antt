use Rattle.std.proofs.Common.{map, take}
use Rattle.sttr_core.specs.Machine.{plain_out}
use Rattle.sttr_preimage.specs.Names.{names_in}
use Rattle.sttr_preimage.specs.Called.{called_in, AreOwnRules}
use Rattle.sttr_preimage.proofs.outs.own_rules.Given as goal

abbrev pub invariant-rules : goal.invariant-rules
invariant-rules g l = AreOwnRules g.T.Labels.make (g.T.Theory.meaning l.theory).has g.T.Map.PartialEq.eq (names_in l.fn.names.keys) (names_in l.names.keys) (called_in l.fn.called.keys) (called_in l.called.keys) (map plain_out (take l.out-index l.rules)) (map plain_out l.made.items)
