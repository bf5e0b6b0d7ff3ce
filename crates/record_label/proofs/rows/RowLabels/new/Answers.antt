use Rattle.std.proofs.Common.{map, ap, ◌∙◌}
use Rattle.fast_tree.specs.declared.signature.FieldOf.{FieldOf}
use Rattle.fast_tree.specs.Signatures.{plain_sort}
use Rattle.record_label.proofs.RowFacts.{seen_sorts}
use Rattle.record_label.proofs.rows.RowLabels.new.Goals as goal

pub returns : goal.returns
returns c = c.in_ok-sorts_of.ensures {u = tt} ∙ ap (map (λ (f : FieldOf). plain_sort f.sort)) c.deref.ensures.value ∙ seen_sorts c.args.input.now.fields.items
