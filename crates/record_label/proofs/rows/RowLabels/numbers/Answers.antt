use Rattle.std.proofs.Common.{map, ap, get_or, ◌∙◌}
use Rattle.std.proofs.Math.IntN.{pos}
use Rattle.model_guard.specs.Forms.{wholes_in}
use Rattle.fast_tree.specs.Entries.{field_of}
use Rattle.record_label.proofs.RowFacts.{few_wholes}
use Rattle.record_label.proofs.rows.RowLabels.numbers.Goals as goal

pub returns : goal.returns
returns c = record {
  few = few_wholes c.self.inside.sorts.items c.args.self.now c.self.invariant c.self.view_is;
  numbers = λ k l. c.wholes.ensures k l ∙ ap (λ values. get_or (wholes_in (map field_of values)) k (pos 0)) c.values.ensures;
}
