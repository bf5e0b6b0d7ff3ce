use Rattle.std.proofs.Common.{map, take}
use Rattle.fast_syntax.specs.Plain.{plain_out_rule}
use Rattle.fast_build.specs.Reached.{IsGrown}
use Rattle.fast_build.specs.Called.{looked_in}
use Rattle.fast_build.proofs.looked.add_looked.Given as goal

abbrev pub invariant-rules : goal.invariant-rules
invariant-rules l = IsGrown l.initial.names.keys l.names.keys (looked_in (map plain_out_rule (take l.rule-index l.rules)))
