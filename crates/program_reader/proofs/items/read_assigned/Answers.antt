use Rattle.model_grammar.specs.Terms.{IsX}
use Rattle.read_forms.proofs.Lists.{open_fails}
use Rattle.label_reader.proofs.Exits.{exit}
use Rattle.label_reader.proofs.Listed.{opened_reads}
use Rattle.program_reader.proofs.XForms.{sample_x}
use Rattle.program_reader.proofs.items.read_assigned.Goals as goal

pub returns-in_err-sign : goal.returns-in_err-sign
returns-in_err-sign c = exit _ _ _ _ c.from_residual.result c.from_residual.ensures.1 (open_fails _ IsX _ sample_x c.in_err-sign.ensures)

pub returns : goal.returns
returns c = opened_reads _ IsX _ _ _ _ c.read_x.result c.in_ok-sign.ensures c.read_x.ensures
