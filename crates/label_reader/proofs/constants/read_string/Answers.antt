use Rattle.std.proofs.Common.{◌≡◌, ℕ, List, sym, subst, ◌∙◌}
use Rattle.std.specs.Str.{chars}
use Rattle.model_program.specs.Quotes.{IsQuoted}
use Rattle.model_program.proofs.QuoteLaws.{quoted_stands_for}
use Rattle.read_forms.proofs.Forms.{as_read, as_fails}
use Rattle.label_reader.proofs.Primaries.{string_missing, string_read, other_no_string, unquoted}
use Rattle.label_reader.proofs.ByToken.{text_by_token}
use Rattle.label_reader.proofs.constants.read_string.Goals as goal

pub returns-in_default : goal.returns-in_default
returns-in_default c = as_fails _ (text_by_token _) (record { why = string_missing _ (other_no_string _ c.in_default.ensures) })

pub returns-then-not-is_quoted : goal.returns-then-not-is_quoted
returns-then-not-is_quoted c = as_fails _ (text_by_token _) (record { why = string_missing _ (unquoted _ c.in-Some.ensures.0 (c.is_quoted.ensures.no c.if-not-is_quoted.true)) })

pub returns : goal.returns
returns c =
    let e = c.in-Some.ensures in
    let q = c.is_quoted.ensures.yes c.if-not-is_quoted.false in
    let same : c.in_ok-text.text ≡ q.values = c.in_ok-text.ensures ∙ quoted_stands_for _ q.values q.is in
    rw c.advance.ensures (as_read (text_by_token _) (string_read _ _ _ _ e.0 e.1 (subst (λ (l : List ℕ). IsQuoted (chars c.in-Some.token.text.now) l) (sym same) q.is)))
