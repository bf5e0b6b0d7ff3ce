use Rattle.std.proofs.Common.{◌∙◌, sym, ap, not, []}
use Rattle.std.proofs.lemmas.List.{append-nil}
use Rattle.std.specs.Str.{chars}
use Rattle.fast_lex.proofs.UnitLemmas.{quoted_goes_on}
use Rattle.fast_lex.proofs.values.is_quoted.Goals as goal

pub returns-in-Some-clause-no : goal.returns-in-Some-clause-no
returns-in-Some-clause-no c = λ is_false quoted. quoted_goes_on _ _ _ (λ x. x.0) (λ x. chars x.1.now) _ c.in-Some.ensures c.next_char.ensures.chars (c.is_none.ensures ∙ ap not is_false) quoted

pub returns-in-None-clause-no : goal.returns-in-None-clause-no
returns-in-None-clause-no c = λ is_false quoted. c.in-None.ensures (chars c.args.text.now) [] (sym (append-nil _)) (quoted.values, quoted.is)
