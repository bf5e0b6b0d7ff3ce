use Rattle.std.proofs.Common.{◌&&◌}
use Rattle.record_label.proofs.CopyFacts.{same_entries, same_written, if_both}
use Rattle.record_label.proofs.labels.RowLabelsLabels.copy_map.Goals as goal

pub returns : goal.returns
returns c =
    if_both c.copy.result _ _ _ (λ copy is kept. λ i. same_entries copy.entries.items c.args.map.now.entries.items is i && same_written copy.written.items c.args.map.now.written.items kept i) c.copy.ensures.entries c.copy.ensures.written
