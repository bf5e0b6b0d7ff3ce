use Rattle.std.proofs.Common.{ap, take, ◌∙◌}
use Rattle.std.specs.Str.{chars}
use Rattle.model_program.specs.Cuts.{place_behind, place_after}
use Rattle.text_reader.proofs.Readings.{bad_utf8}
use Rattle.text_reader.proofs.texts.text_of.Goals as goal

pub returns-in-Err-clause-refused : goal.returns-in-Err-clause-refused
returns-in-Err-clause-refused c =
    let before = c.from_utf8_unchecked-before in
    rw c.refused-in-Err.ensures (
      c.if-bytes-gt-MOST_BYTES.false,
      bad_utf8 _ _ _ c.in-Err.ensures.cases.1
          (c.place_behind.ensures ∙ ap (λ p. place_behind p (chars before.result.now)) c.start-in-Err.ensures ∙ ap (λ l. place_after (chars l)) (before.ensures ∙ ap (λ n. take n c.args.bytes.now) c.valid_up_to.ensures)),
    )
