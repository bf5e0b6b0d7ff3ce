use Rattle.std.proofs.Common.{map}
use Rattle.record_label.specs.PlainMaps.{plain_entry}
use Rattle.record_label.proofs.RowFacts.{few_wholes}
use Rattle.record_label.proofs.LabelFacts.{atom_says}
use Rattle.record_label.proofs.labels.RowLabelsLabels.subst.Goals as goal

pub returns-in-Ok : goal.returns-in-Ok
returns-in-Ok c =
    let put = rw c.deref-2.ensures.value at c.in-Ok.ensures in
    atom_says c.args.self.now (map plain_entry c.args.map.now.entries.items) (few_wholes c.self.inside.sorts.items c.args.self.now c.self.invariant c.self.view_is) c.requires.map_fits c.args.atom.now _ put.0 put.1
