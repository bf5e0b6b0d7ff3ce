use Rattle.std.proofs.Common.{map, take}
use Rattle.fast_syntax.specs.Plain.{plain_rule}
use Rattle.fast_build.specs.Reached.{demanded_in, IsGrown}
use Rattle.fast_build.proofs.reached.add_languages.Given as goal

abbrev pub invariant-rules : goal.invariant-rules
invariant-rules l = IsGrown l.initial.names.keys l.names.keys (demanded_in (map plain_rule (take l.rule-index l.rules)))
