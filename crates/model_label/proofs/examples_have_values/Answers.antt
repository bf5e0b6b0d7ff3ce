use Rattle.std.proofs.Common.{refl}
use Rattle.model_label.proofs.examples_have_values.Goals as goal

pub returns : goal.returns
returns c = record { equal = refl; not_equal = refl; either = refl; both = refl; same = refl; arithmetic = refl; less = refl }
