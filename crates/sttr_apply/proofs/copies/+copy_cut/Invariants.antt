use Rattle.std.proofs.Common.{◌≡◌, map, take}
use Rattle.fast_cut.specs.Cuts.{plain_cut}
use Rattle.apply_laws.specs.Meant.{meant}
use Rattle.sttr_apply.proofs.copies.+copy_cut.Given as goal

abbrev pub invariant-parts : goal.invariant-parts
invariant-parts g l = map (meant g.T.Theory.label_of) (map plain_cut l.parts.items) ≡ map (meant g.T.Theory.label_of) (map plain_cut (take l.part-index l.part-items))
