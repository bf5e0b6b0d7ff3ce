use Rattle.std.proofs.Common.{◌∙◌, ap, Some}
use Rattle.std.specs.Option.{unwrap_or}
use Rattle.model_program.specs.declared.Word.TheVariants.{Id}
use Rattle.model_program.specs.Spellings.{spelled, keywords}
use Rattle.fast_lex.proofs.PieceLemmas.{hyphenated_found, name_found}
use Rattle.fast_lex.proofs.piece.name.Goals as goal

pub returns-in-Some : goal.returns-in-Some
returns-in-Some c = hyphenated_found _ _ _ c.in-Some.ensures

pub returns : goal.returns
returns c = let run = c.run_end-rest.ensures in
    name_found _ _ _ c.requires run c.in_default.ensures
    (ap (λ w. Some w) (c.unwrap_or-word.ensures ∙ ap (λ o. unwrap_or o Id) (c.keyword_of.ensures ∙ ap (λ l. spelled keywords l) (c.front.ensures.chars _ run.behind))))
