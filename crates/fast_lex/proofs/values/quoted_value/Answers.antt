use Rattle.std.proofs.Common.{sym, ◌∙◌, subst, List, ℕ}
use Rattle.std.proofs.lemmas.Str.{IsUtf8-string_bytes}
use Rattle.fast_lex.proofs.RunLemmas.{utf8_behind}
use Rattle.fast_lex.proofs.ValueLemmas.{IsReplacing, replacing_starts, replacing_more, replacing_ends}
use Rattle.fast_lex.proofs.values.quoted_value.Goals as goal

pub loop-c-init : goal.loop-c-init
loop-c-init c = (c.inside-rest.utf8, subst (λ (l : List ℕ). IsReplacing c.args.text.now c.inside-rest.result.now l) (sym c.in_ok-value.ensures.bytes) (replacing_starts _ _ c.inside-rest.ensures))

pub loop-c-preserved : goal.loop-c-preserved
loop-c-preserved c = let next = c.in-Some.ensures in let i = c.loop-c.invariant in
    (utf8_behind next.front _ _ i.0 next.behind.bytes, replacing_more _ _ _ _ _ _ i.1 next c.in_ok-push.ensures.bytes)

pub returns : goal.returns
returns c = c.from.ensures ∙ replacing_ends _ _ _ c.loop-c.invariant.1 c.in_default.ensures (IsUtf8-string_bytes c.loop-c.value)
