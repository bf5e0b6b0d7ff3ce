use Rattle.std.proofs.Common.{◌<◌, length, get_or, sym, ap, subst, ◌∙◌, arith}
use Rattle.model_tree.specs.Tree.{trees_of, children_of}
use Rattle.model_tree.specs.TreeCode.{trees_of-list_of}
use Rattle.sta_core.specs.Sta.{automaton_of}
use Rattle.sta_marks.specs.Nodes.{nodes_of, nodes_of_all}
use Rattle.sttr_core.specs.Machine.{transducer_of}
use Rattle.sttr_apply.specs.Sizes.{StandsAt}
use Rattle.model_sta.proofs.Reached.{same_default}
use Rattle.sttr_apply.proofs.Placed.{child_stands, number_low, placed_low, size_placed}
use Rattle.sttr_apply.proofs.Tabled.{kept_nothing, kept_one, kept_deep}
use Rattle.sttr_apply.proofs.scene.Scene.kept.Goals as goal

pub returns-then-child-children : goal.returns-then-child-children
returns-then-child-children g c =
    let are = ap trees_of c.children-children.ensures ∙ trees_of-list_of (children_of c.args.place.now.tree.now) in
    kept_nothing g.T.Theory.label_of g.T.Value.Ord.cmp g.met.T.Value.Ord.total g.met.T.Theory.equal_values (transducer_of g.T.Theory.atom_holds g.T.Labels.make c.args.self.now.sttr.now) c.args.place.now.tree.now c.children-children.result.now are c.requires.kept c.args.child _ _ c.if-child-children.true c.nothing.ensures.cuts c.nothing.ensures.far

pub number_of-number-requires-clause-placed : goal.number_of-number-requires-clause-placed
number_of-number-requires-clause-placed g c = subst (λ ts. StandsAt c.args.place.now.first (nodes_of_all ts) (nodes_of c.args.self.now.root.now)) (sym (ap trees_of c.children-children.ensures ∙ trees_of-list_of (children_of c.args.place.now.tree.now))) c.requires.placed

pub bounds-self-number : goal.bounds-self-number
bounds-self-number g c =
    let low : c.args.child < length c.children-children.result.now = omega (arith, c.if-child-children.false) in
    number_low g.T.Theory.label_of (automaton_of g.T.Theory.atom_holds c.args.self.now.sttr.now.looks) c.args.self.now.root.now c.args.self.now.sizes.now c.args.self.now.marks.now.rows c.requires.scene c.number_of-number.result _
    (child_stands c.number_of-number.result c.children-children.result.now c.args.child c.args.place.now.tree.now (nodes_of c.args.self.now.root.now) low c.number_of-number.ensures)

pub returns-then-levels-gt-MOST_LEVELS : goal.returns-then-levels-gt-MOST_LEVELS
returns-then-levels-gt-MOST_LEVELS g c =
    let low : c.args.child < length c.children-children.result.now = omega (arith, c.if-child-children.false) in
    let are = ap trees_of c.children-children.ensures ∙ trees_of-list_of (children_of c.args.place.now.tree.now) in
    let stands = child_stands c.number_of-number.result c.children-children.result.now c.args.child c.args.place.now.tree.now (nodes_of c.args.self.now.root.now) low c.number_of-number.ensures in
    let size = ap (λ s. s.levels) (size_placed g.T.Theory.label_of (automaton_of g.T.Theory.atom_holds c.args.self.now.sttr.now.looks) c.args.self.now.root.now c.args.self.now.sizes.now c.args.self.now.marks.now.rows c.requires.scene c.number_of-number.result _ stands (record { nodes = 0; levels = 0 })) in
    kept_deep g.T.Theory.label_of g.T.Value.Ord.cmp g.met.T.Value.Ord.total g.met.T.Theory.equal_values (transducer_of g.T.Theory.atom_holds g.T.Labels.make c.args.self.now.sttr.now) c.args.place.now.tree.now c.children-children.result.now are c.requires.kept c.args.child (get_or c.children-children.result.now c.args.child c.args.place.now.tree.now) low (same_default c.children-children.result.now c.args.child c.args.place.now.tree.now _ low) (omega (arith, c.if-levels-gt-MOST_LEVELS.true, size))

pub invariant_of-out : goal.invariant_of-out
invariant_of-out g c =
    let low : c.args.child < length c.children-children.result.now = omega (arith, c.if-child-children.false) in
    let stands = subst (λ t. StandsAt c.number_of-number.result (nodes_of t) (nodes_of c.args.self.now.root.now)) (sym c.index-children-child.is) (child_stands c.number_of-number.result c.children-children.result.now c.args.child c.index-children-child.result (nodes_of c.args.self.now.root.now) low c.number_of-number.ensures) in
    let size = size_placed g.T.Theory.label_of (automaton_of g.T.Theory.atom_holds c.args.self.now.sttr.now.looks) c.args.self.now.root.now c.args.self.now.sizes.now c.args.self.now.marks.now.rows c.requires.scene c.number_of-number.result c.index-children-child.result stands (record { nodes = 0; levels = 0 }) in
    record { nodes_are = ap (λ s. s.nodes) size; levels_are = ap (λ s. s.levels) size; shallow = omega (arith, c.if-levels-gt-MOST_LEVELS.false) }

pub alone-requires : goal.alone-requires
alone-requires g c =
    let low : c.args.child < length c.children-children.result.now = omega (arith, c.if-child-children.false) in
    let stands = subst (λ t. StandsAt c.number_of-number.result (nodes_of t) (nodes_of c.args.self.now.root.now)) (sym c.index-children-child.is) (child_stands c.number_of-number.result c.children-children.result.now c.args.child c.index-children-child.result (nodes_of c.args.self.now.root.now) low c.number_of-number.ensures) in
    let size = ap (λ s. s.nodes) (size_placed g.T.Theory.label_of (automaton_of g.T.Theory.atom_holds c.args.self.now.sttr.now.looks) c.args.self.now.root.now c.args.self.now.sizes.now c.args.self.now.marks.now.rows c.requires.scene c.number_of-number.result c.index-children-child.result stands (record { nodes = 0; levels = 0 })) in
    let few = placed_low g.T.Theory.label_of (automaton_of g.T.Theory.atom_holds c.args.self.now.sttr.now.looks) c.args.self.now.root.now c.args.self.now.sizes.now c.args.self.now.marks.now.rows c.requires.scene c.number_of-number.result c.index-children-child.result stands in
    omega (arith, size, few)

pub returns : goal.returns
returns g c =
    let low : c.args.child < length c.children-children.result.now = omega (arith, c.if-child-children.false) in
    let are = ap trees_of c.children-children.ensures ∙ trees_of-list_of (children_of c.args.place.now.tree.now) in
    kept_one g.T.Theory.label_of g.T.Value.Ord.cmp g.met.T.Value.Ord.total g.met.T.Theory.equal_values (transducer_of g.T.Theory.atom_holds g.T.Labels.make c.args.self.now.sttr.now) c.args.place.now.tree.now c.children-children.result.now are c.requires.kept c.args.child c.index-children-child.result _ _ low c.index-children-child.is c.in_ok-listing.ensures.cuts c.in_ok-listing.ensures.far
