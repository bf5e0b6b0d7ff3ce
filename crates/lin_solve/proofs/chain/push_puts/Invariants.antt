use Rattle.std.proofs.Common.{◌≡◌, ◌++◌, drop, map}
use Rattle.model_chain.specs.Chains.{take_put}
use Rattle.cooper_solve.specs.Told.{puts_of}
use Rattle.lin_solve.specs.Shown.{plain_choice}
use Rattle.lin_solve.proofs.chain.push_puts.Given as goal

abbrev pub invariant-loop-i : goal.invariant-loop-i
invariant-loop-i l = map plain_choice l.out.items ++ map take_put (drop l.i (puts_of l.puts)) ≡ map plain_choice l.initial.out.items ++ map take_put (puts_of l.puts)
