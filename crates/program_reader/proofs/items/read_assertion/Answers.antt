use Rattle.model_grammar.specs.Grammar.{IsA}
use Rattle.read_forms.proofs.Forms.{as_read, as_fails}
use Rattle.read_forms.proofs.Fronts.{made_makes}
use Rattle.label_reader.proofs.Exits.{exit}
use Rattle.program_reader.specs.Items.{asserted}
use Rattle.program_reader.proofs.items.read_assertion.Goals as goal

pub returns-in_err-claim : goal.returns-in_err-claim
returns-in_err-claim c = exit _ _ _ _ c.from_residual.result c.from_residual.ensures.1 (as_fails _ (made_makes (asserted c.args.wanted c.args.place) IsA) c.in_err-claim.ensures)

pub returns : goal.returns
returns c = as_read (made_makes (asserted c.args.wanted c.args.place) IsA) c.in_ok-claim.ensures
