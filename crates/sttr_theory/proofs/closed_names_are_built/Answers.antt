use Rattle.sttr_theory.specs.Results.{Told}
use Rattle.sttr_theory.proofs.Build.{closed_is_built}
use Rattle.sttr_theory.proofs.closed_names_are_built.Goals as goal

pub returns : goal.returns
returns g c = λ ranks into d f g number look_number looks names ok. closed_is_built ranks (Told d) f g number look_number into ok looks names
