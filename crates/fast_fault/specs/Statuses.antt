-- The exit code of each status.
use Rattle.std.specs.Prelude.{ℕ}
use Rattle.fast_fault.specs.declared.status.Status.{Status}
use Rattle.fast_fault.specs.declared.status.Status.TheVariants.{Hold, Fails, Words, TextRefused, RunRefused, TextFault, SinkFault, Memory}

abbrev pub exit_code_of : Status → ℕ
exit_code_of Hold = 0
exit_code_of Fails = 1
exit_code_of Words = 2
exit_code_of TextRefused = 3
exit_code_of RunRefused = 4
exit_code_of TextFault = 5
exit_code_of SinkFault = 6
exit_code_of Memory = 7
