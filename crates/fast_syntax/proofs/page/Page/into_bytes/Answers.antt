use Rattle.std.proofs.Common.{ap, sym, subst, ◌∙◌}
use Rattle.std.specs.Prelude.{encode_utf8_all}
use Rattle.std.specs.Str.{IsUtf8}
use Rattle.std.specs.String.{string_bytes}
use Rattle.std.proofs.lemmas.Str.{IsUtf8-string_bytes, encodes-chars}
use Rattle.fast_syntax.proofs.page.Page.into_bytes.Goals as goal

pub returns-clause-bytes : goal.returns-clause-bytes
returns-clause-bytes c = ap (λ v. v.items) c.into_bytes.ensures.value ∙ sym (encodes-chars (string_bytes c.self.inside.text) (IsUtf8-string_bytes c.self.inside.text)) ∙ ap encode_utf8_all c.self.view_is

pub returns-clause-encoded : goal.returns-clause-encoded
returns-clause-encoded c = subst (λ v. IsUtf8 v.items) (sym c.into_bytes.ensures.value) (IsUtf8-string_bytes c.self.inside.text)
