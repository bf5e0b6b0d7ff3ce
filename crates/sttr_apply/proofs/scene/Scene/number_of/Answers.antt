use Rattle.std.proofs.Common.{◌≡◌, ◌<◌, length, get_or, drop, ap, subst, arith}
use Rattle.model_tree.specs.Tree.{trees_of}
use Rattle.sta_core.specs.Sta.{automaton_of}
use Rattle.sta_marks.specs.Nodes.{nodes_of, nodes_of_all}
use Rattle.sttr_apply.specs.Sizes.{StandsAt}
use Rattle.sttr_apply.proofs.Placed.{child_stands, next_stands, number_low, placed_low, size_placed}
use Rattle.sttr_apply.proofs.scene.Scene.number_of.Goals as goal

pub bounds-self-number : goal.bounds-self-number
bounds-self-number g c =
    let low : c.skip.counter < length c.args.children.now = omega (arith, c.skip-test.true, c.requires.child) in
    number_low g.T.Theory.label_of (automaton_of g.T.Theory.atom_holds c.args.self.now.sttr.now.looks) c.args.self.now.root.now c.args.self.now.sizes.now c.args.self.now.marks.now.rows c.requires.scene c.skip.number (get_or c.args.children.now c.skip.counter c.args.self.now.root.now) (child_stands c.skip.number c.args.children.now c.skip.counter c.args.self.now.root.now (nodes_of c.args.self.now.root.now) low c.skip.invariant)

pub overflow_add-number : goal.overflow_add-number
overflow_add-number g c =
    let low : c.skip.counter < length c.args.children.now = omega (arith, c.skip-test.true, c.requires.child) in
    let stands = child_stands c.skip.number c.args.children.now c.skip.counter c.args.self.now.root.now (nodes_of c.args.self.now.root.now) low c.skip.invariant in
    let few = placed_low g.T.Theory.label_of (automaton_of g.T.Theory.atom_holds c.args.self.now.sttr.now.looks) c.args.self.now.root.now c.args.self.now.sizes.now c.args.self.now.marks.now.rows c.requires.scene c.skip.number (get_or c.args.children.now c.skip.counter c.args.self.now.root.now) stands in
    let size = ap (λ s. s.nodes) (size_placed g.T.Theory.label_of (automaton_of g.T.Theory.atom_holds c.args.self.now.sttr.now.looks) c.args.self.now.root.now c.args.self.now.sizes.now c.args.self.now.marks.now.rows c.requires.scene c.skip.number (get_or c.args.children.now c.skip.counter c.args.self.now.root.now) stands (record { nodes = 0; levels = 0 })) in
    omega (arith, few, size)

pub skip-preserved : goal.skip-preserved
skip-preserved g c =
    let low : c.skip.counter < length c.args.children.now = omega (arith, c.skip-test.true, c.requires.child) in
    let stands = child_stands c.skip.number c.args.children.now c.skip.counter c.args.self.now.root.now (nodes_of c.args.self.now.root.now) low c.skip.invariant in
    let size = ap (λ s. s.nodes) (size_placed g.T.Theory.label_of (automaton_of g.T.Theory.atom_holds c.args.self.now.sttr.now.looks) c.args.self.now.root.now c.args.self.now.sizes.now c.args.self.now.marks.now.rows c.requires.scene c.skip.number (get_or c.args.children.now c.skip.counter c.args.self.now.root.now) stands (record { nodes = 0; levels = 0 })) in
    next_stands c.skip.number c.args.children.now c.skip.counter c.args.self.now.root.now (nodes_of c.args.self.now.root.now) low c.skip.invariant _ (omega (arith, size))

pub returns : goal.returns
returns g c =
    let all : c.skip.counter ≡ c.args.child = omega (arith, c.skip-test.false, c.skip.auto.counter-end) in
    subst (λ k. StandsAt c.skip.number (nodes_of_all (trees_of (drop k c.args.children.now))) (nodes_of c.args.self.now.root.now)) all c.skip.invariant
