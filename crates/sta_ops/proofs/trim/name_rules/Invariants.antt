use Rattle.std.proofs.Common.{map, take}
use Rattle.sta_core.specs.Machine.{plain_rule}
use Rattle.sta_ops.specs.Trimmed.{Meets, AreNamedRules, DemandedByAny}
use Rattle.sta_ops.proofs.trim.name_rules.Given as goal

abbrev pub invariant-rules : goal.invariant-rules
invariant-rules g l = record {
  meets : Meets l.initial.met.keys l.met.keys (DemandedByAny (map plain_rule l.rules));
  named : AreNamedRules l.met.keys (map plain_rule (take l.rule-index l.rules)) (map plain_rule l.named.items);
}
