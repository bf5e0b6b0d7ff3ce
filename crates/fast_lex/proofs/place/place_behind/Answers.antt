use Rattle.std.proofs.Common.{sym, ◌∙◌, ap, arith}
use Rattle.std.proofs.lemmas.Str.{IsUtf8-past_char}
use Rattle.std.specs.Str.{chars}
use Rattle.model_program.specs.Cuts.{place_behind}
use Rattle.fast_lex.proofs.RunLemmas.{char_shorter}
use Rattle.fast_lex.proofs.PlaceLemmas.{next_line, next_column}
use Rattle.fast_lex.proofs.place.place_behind.Goals as goal

pub next_place-place-requires-clause-line : goal.next_place-place-requires-clause-line
next_place-place-requires-clause-line c = let e = char_shorter _ _ _ c.in-Some.ensures.bytes in let f = c.loop-c.invariant.2 in omega (arith, c.requires.line)

pub next_place-place-requires-clause-column : goal.next_place-place-requires-clause-column
next_place-place-requires-clause-column c = let e = char_shorter _ _ _ c.in-Some.ensures.bytes in let f = c.loop-c.invariant.3 in omega (arith, c.requires.column)

pub loop-c-smaller : goal.loop-c-smaller
loop-c-smaller c = char_shorter _ _ _ c.in-Some.ensures.bytes

pub loop-c-preserved : goal.loop-c-preserved
loop-c-preserved c = let e = c.in-Some.ensures in let s = char_shorter _ _ _ e.bytes in let i = c.loop-c.invariant in let n = c.next_place-place.ensures in
    let line = next_line c.loop-c.place c.in-Some.c in let column = next_column c.loop-c.place c.in-Some.c in
    let a = ap (λ p. p.line) n in let b = ap (λ p. p.column) n in
    (IsUtf8-past_char _ _ _ i.0 e.bytes, i.1 ∙ ap (λ l. place_behind c.loop-c.place l) e.chars ∙ ap (λ p. place_behind p (chars c.in-Some.after.now)) (sym n), omega (arith, i.2), omega (arith, i.3))
