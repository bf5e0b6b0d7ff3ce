use Rattle.std.proofs.Common.{sym, ◌∙◌}
use Rattle.std.proofs.lemmas.Str.{IsUtf8-past_char}
use Rattle.fast_lex.proofs.RunLemmas.{run_more, char_shorter}
use Rattle.fast_lex.proofs.scan.run_end.Goals as goal

pub loop-c-preserved : goal.loop-c-preserved
loop-c-preserved c = let e = c.in-Some.ensures in
    (IsUtf8-past_char _ _ _ c.loop-c.invariant.0 e.bytes, run_more _ _ _ _ _ c.loop-c.invariant.1 e.bytes e.chars (sym c.is_in.ensures ∙ c.if-not-is_in.false))

pub loop-c-smaller : goal.loop-c-smaller
loop-c-smaller c = char_shorter _ _ _ c.in-Some.ensures.bytes
