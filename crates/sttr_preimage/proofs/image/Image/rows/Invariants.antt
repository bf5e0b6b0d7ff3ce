use Rattle.sttr_run.specs.Plain.{plain_second}
use Rattle.std.proofs.Common.{map}
use Rattle.sta_core.specs.Machine.{plain_rule}
use Rattle.sttr_preimage.specs.Names.{names_in}
use Rattle.sttr_preimage.specs.Images.{HasOne, IsSecond, IsMiddle}
use Rattle.sttr_preimage.proofs.Sides.{RowsSoFar}
use Rattle.sttr_preimage.proofs.image.Image.rows.Given as goal

abbrev pub invariant-places : goal.invariant-places
invariant-places g l =
    RowsSoFar g.T.Labels.is_put g.T.Labels.make (g.T.Theory.meaning l.self.theory.now) (g.T.Theory.atom_fits l.self.theory.now) l.self.sttr.now (plain_second l.self.second) (HasOne IsSecond (names_in l.initial.names.keys)) (HasOne IsMiddle (names_in l.initial.names.keys))
    (names_in l.initial.names.keys) (names_in l.names.keys) (map (λ those. map plain_rule those.items) l.rows.items) l.place
