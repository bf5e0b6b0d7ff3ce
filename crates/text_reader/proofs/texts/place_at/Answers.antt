use Rattle.std.proofs.Common.{◌∙◌, ap}
use Rattle.std.specs.Str.{chars}
use Rattle.model_program.specs.Cuts.{place_behind}
use Rattle.text_reader.proofs.Readings.{place_some, place_none}
use Rattle.text_reader.proofs.texts.place_at.Goals as goal

pub returns-in-Some : goal.returns-in-Some
returns-in-Some c = let found = c.in-Some.ensures.lookup.3 in place_some _ _ _ _ found.0 (found.1 c.in-Some.token.now)

pub returns-in-None : goal.returns-in-None
returns-in-None c = let none = c.in-None.ensures.lookup.3 in c.place_behind.ensures ∙ ap (λ p. place_behind p (chars c.args.text.now)) c.start.ensures ∙ place_none _ _ _ none
