use Rattle.std.proofs.lemmas.Slice.Eq.{slice_eq-Decides}
use Rattle.std.proofs.lemmas.Bool.Decides.{Decides-int_eq}
use Rattle.lin_reduce.proofs.pins.same_rows.Goals as goal

pub returns : goal.returns
returns c = λ yes. (slice_eq-Decides Decides-int_eq _ _ _ c.eq.ensures).0 yes
