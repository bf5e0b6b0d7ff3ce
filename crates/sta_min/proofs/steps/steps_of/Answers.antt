use Rattle.std.proofs.Common.{length, map, sym, ap, ◌∙◌}
use Rattle.std.proofs.lemmas.List.{length-map}
use Rattle.sta_core.specs.Machine.{plain_rule}
use Rattle.sta_min.proofs.Stepping.{row_long}
use Rattle.sta_min.proofs.steps.steps_of.Goals as goal

pub classes_of-requires : goal.classes_of-requires
classes_of-requires g c = record {
  states = λ k low. row_long (g.T.Theory.meaning c.args.theory.now) c.args.table.now c.requires.table k low ∙ sym (ap length c.requires.rules) ∙ length-map c.args.rules.now (λ those. map plain_rule those.items);
}
