use Rattle.std.proofs.Common.{◌≡◌, ◌≤◌, ◌+◌, length, string_bytes, arith, sym, ap, subst, ◌∙◌, ⊎_elim}
use Rattle.std.specs.Str.{encode_utf8_all}
use Rattle.std.proofs.lemmas.List.Elements.{All-push, All-weaker, Contains-append_cases}
use Rattle.std.proofs.lemmas.Str.{encodes-chars, IsUtf8-string_bytes}
use Rattle.flat_label.specs.Fresh.{AreFresh}
use Rattle.flat_label.proofs.Apart.{AreShort, longer_new, one_more_fresh}
use Rattle.flat_label.proofs.fresh.fresh_texts.Goals as goal

pub more-preserved : goal.more-preserved
more-preserved c =
    let bytes : length (encode_utf8_all c.in_ok-next_text.field-0) ≡ length (string_bytes c.next_text.new.row) =
    ap (λ t. length (encode_utf8_all t)) c.in_ok-next_text.ensures.text ∙ ap length (encodes-chars (string_bytes c.next_text.new.row) (IsUtf8-string_bytes c.next_text.new.row)) in
    let new = longer_new c.more.texts.items c.in_ok-next_text.field-0 (length (string_bytes c.more.row)) c.more.invariant.short (omega (arith, bytes, c.in_ok-next_text.ensures.longer)) in
    record {
      fresh = subst (AreFresh (c.more.counter + 1) c.args.given.now.keys) (sym c.in_ok-push.ensures.items) (one_more_fresh c.more.counter c.args.given.now.keys c.more.texts.items c.in_ok-next_text.field-0 c.more.invariant.fresh (λ there. ⊎_elim c.in_ok-next_text.ensures.new new (Contains-append_cases c.args.given.now.keys c.more.texts.items c.in_ok-next_text.field-0 there)));
      short = subst (AreShort (length (string_bytes c.next_text.new.row))) (sym c.in_ok-push.ensures.items)
          (All-push (λ t. length (encode_utf8_all t) ≤ length (string_bytes c.next_text.new.row)) c.more.texts.items c.in_ok-next_text.field-0
          (All-weaker (λ t. length (encode_utf8_all t) ≤ length (string_bytes c.more.row)) (λ t. length (encode_utf8_all t) ≤ length (string_bytes c.next_text.new.row)) (λ t h. omega (arith, h, c.in_ok-next_text.ensures.longer)) c.more.texts.items c.more.invariant.short)
          (omega (arith, bytes)));
    }
