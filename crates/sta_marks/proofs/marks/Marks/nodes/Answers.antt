use Rattle.std.proofs.Common.{length, sym, ap, ◌∙◌}
use Rattle.sta_marks.proofs.Bits.{rows_length}
use Rattle.sta_marks.proofs.marks.Marks.nodes.Goals as goal

pub returns : goal.returns
returns c = sym (rows_length c.self.inside.states c.self.inside.nodes c.self.inside.words.items) ∙ ap (λ m. length m.rows) c.self.view_is
