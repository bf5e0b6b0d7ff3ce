use Rattle.std.proofs.Common.{◌^◌, length}
use denote.Text.{Utf8}
use denote.Shadow.{shadow}
use Rattle.model_program.specs.Characters.{is_hexadecimal}
use Rattle.fast_lex.proofs.AmountLemmas.{IsAmounting}
use Rattle.fast_lex.proofs.quoted.hexadecimal.Given as goal

abbrev pub invariant-loop-c : goal.invariant-loop-c
invariant-loop-c l = shadow (Utf8 l.rest) × IsAmounting is_hexadecimal 16 (16 ^ 6) l.fn.digits l.rest l.value

abbrev pub decreases-loop-c : goal.decreases-loop-c
decreases-loop-c l = length l.rest
