use Rattle.model_program.proofs.Unique.{same_stop}
use Rattle.fast_lex.proofs.laws.stops_at_one_place.Goals as goal

pub returns : goal.returns
returns c = same_stop
