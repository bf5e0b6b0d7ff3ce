use Rattle.model_run.proofs.Lines.{lines_are}
use Rattle.model_run.proofs.examples_of_lines.Goals as goal

pub returns : goal.returns
returns c = lines_are
