use Rattle.model_run.proofs.Shown.{is_reported}
use Rattle.model_run.proofs.example_of_a_report.Goals as goal

pub returns : goal.returns
returns c = is_reported
