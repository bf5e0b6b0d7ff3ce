use Rattle.std.proofs.Common.{◌≡◌, map, ap, sym, ◌∙◌, refl}
use Rattle.std.proofs.lemmas.List.{take_all}
use Rattle.model_tree.specs.Tree.{node, trees_of, relabel}
use Rattle.model_tree.proofs.Trees.{rebuilt, list_of-trees_of}
use Rattle.fast_tree.specs.Entries.{entries_of}
use Rattle.fast_tree.proofs.Copies.{meaning_from_values}
use Rattle.fast_tree.proofs.tree.Tree+Label.+copy.Goals as goal

pub returns-clause-values : goal.returns-clause-values
returns-clause-values t c =
    let own = node c.self.inside.constructor c.self.inside.label (trees_of c.self.inside.children.items) in
    let all : map (relabel entries_of) c.loop-child.children.items ≡ map (relabel entries_of) c.self.inside.children.items = c.loop-child.invariant ∙ ap (map (relabel entries_of)) (take_all c.loop-child.child-index c.deref-child-items.result.now c.loop-child-test.false ∙ c.deref-child-items.ensures.value) in
    rebuilt entries_of own c.new.result c.self.inside.constructor c.in_ok-label.label c.loop-child.children.items c.new.ensures refl c.in_ok-label.ensures.values (all ∙ ap (map (relabel entries_of)) (sym (list_of-trees_of c.self.inside.children.items))) ∙ ap (relabel entries_of) c.self.view_is

pub returns-clause-meaning : goal.returns-clause-meaning
returns-clause-meaning t c = meaning_from_values c.args.self.now c.new.result (returns-clause-values t c)
