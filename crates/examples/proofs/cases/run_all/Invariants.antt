use denote.Text.{Utf8}
use denote.Shadow.{shadow}
use Rattle.examples.proofs.cases.run_all.Given as goal

-- the program that the cases share is text
abbrev pub invariant-loop-block : goal.invariant-loop-block
invariant-loop-block l = shadow (Utf8 l.program)
