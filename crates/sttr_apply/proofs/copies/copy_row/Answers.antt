use Rattle.std.proofs.Common.{map, sym, ap, ◌∙◌}
use Rattle.std.proofs.lemmas.List.{take_all}
use Rattle.fast_cut.specs.Cuts.{plain_cut}
use Rattle.apply_laws.specs.Meant.{meant}
use Rattle.sttr_apply.specs.Cuts.{cuts_in}
use Rattle.sttr_apply.specs.Plain.{row_cuts}
use Rattle.sttr_apply.proofs.Cutting.{meant_parts, same_row_nodes, same_row_levels}
use Rattle.sttr_apply.proofs.copies.copy_row.Goals as goal

pub invariant_of-result : goal.invariant_of-result
invariant_of-result g c =
    let same = meant_parts g.T.Theory.label_of (map plain_cut c.copies.parts.items) (map plain_cut c.args.row.now.parts.items) (c.copies.invariant ∙ ap (λ xs. map (meant g.T.Theory.label_of) (map plain_cut xs)) (take_all c.copies.part-index c.deref-part-items.result.now c.copies-test.false ∙ c.deref-part-items.ensures.value)) in
    record {
      nodes_are = c.args.row.now.nodes_are ∙ sym (same_row_nodes g.T.Theory.label_of (cuts_in (map plain_cut c.copies.parts.items)) (row_cuts c.args.row.now) same);
      levels_are = c.args.row.now.levels_are ∙ sym (same_row_levels g.T.Theory.label_of (cuts_in (map plain_cut c.copies.parts.items)) (row_cuts c.args.row.now) same);
      shallow = c.args.row.now.shallow;
    }

pub returns-clause-meaning : goal.returns-clause-meaning
returns-clause-meaning g c = meant_parts g.T.Theory.label_of (map plain_cut c.copies.parts.items) (map plain_cut c.args.row.now.parts.items) (c.copies.invariant ∙ ap (λ xs. map (meant g.T.Theory.label_of) (map plain_cut xs)) (take_all c.copies.part-index c.deref-part-items.result.now c.copies-test.false ∙ c.deref-part-items.ensures.value))
