use Rattle.std.proofs.Common.{◌++◌, ap, sym, ◌∙◌, arith}
use Rattle.std.specs.Prelude.{encode_utf8, encode_utf8_all}
use Rattle.std.specs.Str.{chars}
use Rattle.std.proofs.lemmas.List.{take_all}
use Rattle.fast_tool.proofs.Bytes.{encodes_more, bytes_chars}
use Rattle.fast_tool.proofs.named.name_of.Goals as goal

pub bytes-preserved : goal.bytes-preserved
bytes-preserved c =
    c.in_ok-push.ensures.bytes ∙ (ap (λ z. z ++ encode_utf8 c.from.result) c.bytes.invariant ∙ sym (encodes_more c.as_bytes-byte-items.result.now c.bytes.byte-index c.from.result 0 c.bytes-test.true c.from.ensures))

pub returns : goal.returns
returns c =
    let whole = take_all c.bytes.byte-index c.as_bytes-byte-items.result.now (omega (arith, c.bytes-test.false)) in
    c.from-2.ensures ∙ (ap chars (c.bytes.invariant ∙ ap encode_utf8_all (whole ∙ c.as_bytes-byte-items.ensures.value)) ∙ bytes_chars c.args.word.now c.type_inv.word)
