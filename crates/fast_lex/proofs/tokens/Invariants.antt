use Rattle.std.proofs.Common.{length, map}
use denote.Text.{Utf8}
use denote.Shadow.{shadow}
use Rattle.fast_lex.specs.Tokens.{lexeme, AreSlices}
use Rattle.fast_lex.proofs.TokenLemmas.{IsLexing}
use Rattle.fast_lex.proofs.tokens.Given as goal

abbrev pub invariant-loop-rest : goal.invariant-loop-rest
invariant-loop-rest l = shadow (Utf8 l.rest) × IsLexing l.fn.text l.rest l.place (map lexeme l.found.items) × AreSlices l.fn.text l.found.items

abbrev pub decreases-loop-rest : goal.decreases-loop-rest
decreases-loop-rest l = length l.rest
