use Rattle.std.specs.String.{string_bytes}
use Rattle.std.proofs.lemmas.Str.{IsUtf8-string_bytes}
use Rattle.fast_syntax.proofs.Characters.{chars_more}
use Rattle.fast_syntax.proofs.page.Page.push_text.Goals as goal

pub returns : goal.returns
returns c = chars_more (string_bytes c.self.inside.text) c.args.text.now (string_bytes c.push_str.new.self) c.args.self.now (IsUtf8-string_bytes c.self.inside.text) c.in_ok-push_str.ensures.bytes c.self.view_is
