use Rattle.read_forms.proofs.Lists.{open_fails}
use Rattle.label_reader.specs.Lists.{AnyTo}
use Rattle.label_reader.proofs.Exits.{exit}
use Rattle.label_reader.proofs.Listed.{opened_reads, sample_any_to}
use Rattle.label_reader.proofs.lists.read_any.Goals as goal

pub returns-in_err-sign : goal.returns-in_err-sign
returns-in_err-sign g c = exit _ _ _ _ c.from_residual.result c.from_residual.ensures.1 (open_fails _ (AnyTo c.args.between g.L.Items.spelled c.args.close) _ (sample_any_to _ _ _) c.in_err-sign.ensures)

pub returns : goal.returns
returns g c = opened_reads _ (AnyTo c.args.between g.L.Items.spelled c.args.close) _ _ _ _ c.read_to.result c.in_ok-sign.ensures c.read_to.ensures
