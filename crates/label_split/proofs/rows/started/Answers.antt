use Rattle.std.proofs.Common.{◌++◌, ◌∷◌, [], ◌∙◌, inr, Ok, ap}
use Rattle.label_split.specs.Noted.{rows_of}
use Rattle.label_split.proofs.rows.started.Goals as goal

pub returns-in_ok-add_found-in-Ok-Sat : goal.returns-in_ok-add_found-in-Ok-Sat
returns-in_ok-add_found-in-Ok-Sat g c = inr (record { signs = c.new.result; value = c.in-Ok-Sat.value }, c.in-Ok-Sat.is ∙ ap Ok c.in-Ok-Sat.field-0-is, c.new.ensures.items, ap rows_of (c.in_ok-add_found-in-Ok-Sat.ensures ∙ ap (λ rows. rows ++ record { row = record { signs = c.new.result; value = c.in-Ok-Sat.value }; active = c.new-active.result } ∷ []) c.new-rows.ensures.items))
