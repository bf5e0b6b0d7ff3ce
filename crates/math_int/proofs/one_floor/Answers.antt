use Rattle.math_int.proofs.Floors.{floor_once}
use Rattle.math_int.proofs.one_floor.Goals as goal

pub returns : goal.returns
returns c = floor_once
