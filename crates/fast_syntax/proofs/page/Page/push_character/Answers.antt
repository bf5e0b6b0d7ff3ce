use Rattle.std.specs.String.{string_bytes}
use Rattle.std.proofs.lemmas.Str.{IsUtf8-string_bytes}
use Rattle.fast_syntax.proofs.Characters.{character_more}
use Rattle.fast_syntax.proofs.page.Page.push_character.Goals as goal

pub returns : goal.returns
returns c = character_more (string_bytes c.self.inside.text) (string_bytes c.push.new.self) c.args.self.now c.args.character c.ranges.character.0 (IsUtf8-string_bytes c.self.inside.text) c.in_ok-push.ensures.bytes c.self.view_is
