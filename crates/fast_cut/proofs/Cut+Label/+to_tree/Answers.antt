use Rattle.std.proofs.Common.{map, ap, sym, ◌∙◌}
use Rattle.std.proofs.lemmas.List.{take_all}
use Rattle.model_tree.specs.Tree.{node, relabel}
use Rattle.fast_tree.specs.Entries.{entries_of}
use Rattle.fast_cut.proofs.Copies.{meaning_from_values, same_nodes}
use Rattle.fast_cut.proofs.Parts.{cut_tree, part_trees}
use Rattle.fast_cut.proofs.Cut+Label.+to_tree.Goals as goal

pub returns-after-copy-clause-values : goal.returns-after-copy-clause-values
returns-after-copy-clause-values t c =
    let own = c.in-Node.node in
    let all = c.copy.invariant ∙ ap (λ xs. map (relabel entries_of) (map cut_tree xs)) (take_all c.copy.part-index c.deref-part-items.result.now c.copy-test.false ∙ c.deref-part-items.ensures.value) in
    ap (relabel entries_of) c.new.ensures
    ∙ same_nodes entries_of own.constructor c.in_ok-label-in-Node.label own.label c.copy.children.items (map cut_tree own.parts.items) c.in_ok-label-in-Node.ensures.values all
    ∙ ap (λ ts. relabel entries_of (node own.constructor own.label ts)) (sym (part_trees own.parts))
    ∙ ap (λ x. relabel entries_of (cut_tree x)) (sym c.in-Node.is)

pub returns-after-copy-clause-meaning : goal.returns-after-copy-clause-meaning
returns-after-copy-clause-meaning t c = meaning_from_values (cut_tree c.args.self.now) c.new.result (returns-after-copy-clause-values t c)
