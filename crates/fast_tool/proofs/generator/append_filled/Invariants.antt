use Rattle.std.proofs.Common.{◌≡◌, ◌++◌, drop}
use Rattle.fast_tool.specs.Filled.{filled}
use Rattle.fast_tool.proofs.generator.append_filled.Given as goal

abbrev pub invariant-bytes : goal.invariant-bytes
invariant-bytes l = l.out.items ++ filled l.own l.next (drop l.byte-index l.template) ≡ l.initial.out.items ++ filled l.own l.next l.template
