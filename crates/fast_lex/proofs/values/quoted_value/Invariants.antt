use Rattle.std.proofs.Common.{length}
use Rattle.std.specs.Prelude.{string_bytes}
use denote.Text.{Utf8}
use denote.Shadow.{shadow}
use Rattle.fast_lex.proofs.ValueLemmas.{IsReplacing}
use Rattle.fast_lex.proofs.values.quoted_value.Given as goal

abbrev pub invariant-loop-c : goal.invariant-loop-c
invariant-loop-c l = shadow (Utf8 l.rest) × IsReplacing l.fn.text l.rest (string_bytes l.value)

abbrev pub decreases-loop-c : goal.decreases-loop-c
decreases-loop-c l = length l.rest
