use Rattle.read_forms.proofs.Lists.{open_fails}
use Rattle.label_reader.specs.Lists.{SomeTo}
use Rattle.label_reader.proofs.Exits.{exit}
use Rattle.label_reader.proofs.Listed.{opened_reads, sample_some_to, sample_item}
use Rattle.label_reader.proofs.lists.read_some.Goals as goal

pub returns-in_err-sign : goal.returns-in_err-sign
returns-in_err-sign g c = exit _ _ _ _ c.from_residual.result c.from_residual.ensures.1 (open_fails _ (SomeTo c.args.between g.L.Items.spelled c.args.close) _ (sample_some_to _ _ _ (sample_item c.requires.alone)) c.in_err-sign.ensures)

pub returns : goal.returns
returns g c = opened_reads _ (SomeTo c.args.between g.L.Items.spelled c.args.close) _ _ _ _ c.read_some_to.result c.in_ok-sign.ensures c.read_some_to.ensures
