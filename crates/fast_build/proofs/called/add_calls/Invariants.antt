use Rattle.std.proofs.Common.{map, take}
use Rattle.fast_syntax.specs.Plain.{plain_out_rule}
use Rattle.fast_build.specs.Reached.{IsGrown}
use Rattle.fast_build.specs.Called.{called_in}
use Rattle.fast_build.proofs.called.add_calls.Given as goal

abbrev pub invariant-calls : goal.invariant-calls
invariant-calls l = IsGrown l.initial.names.keys l.names.keys (called_in (map plain_out_rule (take l.rule-index l.rules)))
