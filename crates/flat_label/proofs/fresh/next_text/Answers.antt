use Rattle.std.proofs.Common.{◌≡◌, ◌≤◌, ◌+◌, length, string_bytes, arith, sym, ap, subst, ◌∙◌, Contains}
use Rattle.std.specs.Str.{chars}
use Rattle.std.proofs.lemmas.List.{length-append}
use Rattle.std.proofs.lemmas.Str.{IsUtf8-string_bytes}
use Rattle.flat_label.proofs.Apart.{longest, among_short}
use Rattle.flat_label.proofs.Constants.{not_in, is_in}
use Rattle.flat_label.proofs.fresh.next_text.Goals as goal

pub longer-init : goal.longer-init
unfolding lib.Utf8.encode
longer-init c = record {
  text = c.in_ok-text.ensures ∙ ap chars c.deref.ensures;
  longer = let more : length (string_bytes c.push.new.self) ≡ length (string_bytes c.args.row.now) + 1 = ap length c.in_ok-push.ensures.bytes ∙ length-append (string_bytes c.args.row.now) _ in omega arith;
}

pub longer-smaller : goal.longer-smaller
unfolding lib.Utf8.encode
longer-smaller c =
    let there : Contains c.args.given.now.keys (chars (string_bytes c.longer.row)) = subst (Contains c.args.given.now.keys) c.longer.invariant.text (is_in c.args.given.now.keys c.longer.text (sym c.contains.ensures ∙ c.longer-test.true)) in
    let bound : length (string_bytes c.longer.row) ≤ longest c.args.given.now.keys = among_short c.args.given.now.keys (string_bytes c.longer.row) (IsUtf8-string_bytes c.longer.row) there in
    let longer : length (string_bytes c.push-in-longer.new.self) ≡ length (string_bytes c.longer.row) + 1 = ap length c.in_ok-push-2.ensures.bytes ∙ length-append (string_bytes c.longer.row) _ in omega arith

pub returns-clause-new : goal.returns-clause-new
returns-clause-new c = not_in c.args.given.now.keys c.longer.text (sym c.contains.ensures ∙ c.longer-test.false)
