use Rattle.std.proofs.Common.{◌+◌, ◌*◌, take}
use Rattle.label_core.specs.Puts.{AreEachPut}
use Rattle.label_core.proofs.puts.+puts.Given as goal

abbrev pub invariant-put_each-loop-part : goal.invariant-put_each-loop-part
invariant-put_each-loop-part g l = AreEachPut (g.L.Theory.meaning l.labels) (g.L.Theory.atom_fits l.labels) (g.L.Labels.is_put l.map) (g.L.Labels.put_outside l.map) (λ a k. g.L.Theory.atom_holds a (g.L.Labels.make l.map k)) l.parts (take l.part-index l.parts) l.made.items

abbrev pub decreases-put_within : goal.decreases-put_within
decreases-put_within g l = 2 * l.most

abbrev pub decreases-put_each : goal.decreases-put_each
decreases-put_each g l = 2 * l.most + 1
