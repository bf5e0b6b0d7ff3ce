use Rattle.std.proofs.Common.{map, refl, ap, ◌∙◌}
use Rattle.std.proofs.lemmas.List.{take_all}
use Rattle.fast_cut.specs.Cuts.{plain_cut}
use Rattle.apply_laws.specs.Meant.{meant}
use Rattle.sttr_apply.proofs.Cutting.{copied_node}
use Rattle.sttr_apply.proofs.copies.+copy_cut.Goals as goal

pub returns-after-parts : goal.returns-after-parts
returns-after-parts g t c = copied_node g.T.Theory.label_of c.args.cut.now c.in-Node.node (record { constructor = c.in-Node.node.constructor; label = c.in_ok-label-in-Node.label; parts = c.parts.parts }) c.in-Node.is refl c.in_ok-label-in-Node.ensures
    (c.parts.invariant ∙ ap (λ xs. map (meant g.T.Theory.label_of) (map plain_cut xs)) (take_all c.parts.part-index c.deref-part-items.result.now c.parts-test.false ∙ c.deref-part-items.ensures.value))
