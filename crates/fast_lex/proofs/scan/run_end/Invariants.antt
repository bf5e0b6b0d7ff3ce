use Rattle.std.proofs.Common.{length}
use denote.Text.{Utf8}
use denote.Shadow.{shadow}
use Rattle.fast_lex.specs.Runs.{class_of}
use Rattle.fast_lex.proofs.RunLemmas.{IsRunning}
use Rattle.fast_lex.proofs.scan.run_end.Given as goal

abbrev pub invariant-loop-c : goal.invariant-loop-c
invariant-loop-c l = shadow (Utf8 l.rest) × IsRunning (class_of l.fn.class) l.fn.text l.rest

abbrev pub decreases-loop-c : goal.decreases-loop-c
decreases-loop-c l = length l.rest
