use Rattle.model_program.proofs.Unique.{stops_or_whole}
use Rattle.fast_lex.proofs.laws.stops_or_is_whole.Goals as goal

pub returns : goal.returns
returns c = stops_or_whole
