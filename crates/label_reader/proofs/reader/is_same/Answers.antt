use Rattle.std.proofs.Common.{rules, sym, ◌∙◌}
use denote.Enum.Bare.{same_true, same_false}
use Rattle.model_program.specs.contracts.Word.{the_type}
use Rattle.label_reader.proofs.reader.is_same.Goals as goal

pub returns-clause-yes : goal.returns-clause-yes
returns-clause-yes c = λ e. same_true the_type (search rules) _ _ (sym c.eq.ensures ∙ e)

pub returns-clause-no : goal.returns-clause-no
returns-clause-no c = λ e. same_false the_type _ _ (sym c.eq.ensures ∙ e)
