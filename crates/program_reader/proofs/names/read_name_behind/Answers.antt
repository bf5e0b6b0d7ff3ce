use Rattle.model_program.specs.Grammar.{IsName}
use Rattle.read_forms.proofs.Lists.{open_fails}
use Rattle.label_reader.proofs.Exits.{exit}
use Rattle.label_reader.proofs.Listed.{opened_reads}
use Rattle.label_reader.proofs.Names.{sample_name}
use Rattle.program_reader.proofs.names.read_name_behind.Goals as goal

pub returns-in_err-sign : goal.returns-in_err-sign
returns-in_err-sign c = exit _ _ _ _ c.from_residual.result c.from_residual.ensures.1 (open_fails _ IsName _ sample_name c.in_err-sign.ensures)

pub returns : goal.returns
returns c = opened_reads _ IsName _ _ _ _ c.name.result c.in_ok-sign.ensures c.name.ensures
