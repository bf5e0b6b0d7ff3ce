use Rattle.std.proofs.Common.{map}
use Rattle.record_label.specs.PlainMaps.{plain_entry}
use Rattle.record_label.proofs.RowFacts.{few_wholes}
use Rattle.record_label.proofs.LabelFacts.{map_says}
use Rattle.record_label.proofs.labels.RowLabelsLabels.chain_maps.Goals as goal

pub returns-in-Ok : goal.returns-in-Ok
returns-in-Ok c =
    map_says c.args.self.now (map plain_entry c.args.first.now.entries.items) (few_wholes c.self.inside.sorts.items c.args.self.now c.self.invariant c.self.view_is) c.requires.first_fits (map plain_entry c.args.second.now.entries.items) c.in-Ok.ensures.written _ c.in-Ok.ensures.entries.0 c.in-Ok.ensures.entries.1
