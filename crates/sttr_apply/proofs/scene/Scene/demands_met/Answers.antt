use Rattle.std.proofs.Common.{[], get_or, map, drop, refl, sym, ap, subst, ◌∙◌, arith}
use Rattle.std.specs.List.{list_all}
use Rattle.model_tree.specs.Tree.{relabel_all, trees_of, node_count}
use Rattle.model_sta.specs.Sets.{has, sets_of}
use Rattle.sta_core.specs.Sta.{automaton_of}
use Rattle.sta_marks.specs.Nodes.{nodes_of}
use Rattle.sta_marks.proofs.Tried.{rows_meet_done}
use Rattle.sttr_apply.specs.Sizes.{StandsAt}
use Rattle.sttr_apply.proofs.Placed.{child_stands, next_stands, number_low, placed_low, size_placed, met_test, met_ended, none_after, rest_after}
use Rattle.sttr_apply.proofs.scene.Scene.demands_met.Goals as goal

pub children-init : goal.children-init
children-init g c = record { at = refl; low = omega arith; placed = c.requires.placed; met = refl }

pub returns-then-i-demands : goal.returns-then-i-demands
returns-then-i-demands g c =
    sym (rows_meet_done (λ d. d.items) (sets_of (automaton_of g.T.Theory.atom_holds c.args.self.now.sttr.now.looks) (relabel_all g.T.Theory.label_of (trees_of (drop c.children.child-index c.args.children.now)))) c.args.demands.now c.children.child-index (omega (arith, c.children.invariant.at, c.if-i-demands.true)))
    ∙ c.children.invariant.met

pub returns-then-not-has_each : goal.returns-then-not-has_each
returns-then-not-has_each g c =
    let stands : StandsAt c.children.number (nodes_of c.child-item.result) (nodes_of c.args.self.now.root.now) = subst (λ t. StandsAt c.children.number (nodes_of t) (nodes_of c.args.self.now.root.now)) (sym c.child-item.is) (child_stands c.children.number c.args.children.now c.children.child-index c.child-item.result (nodes_of c.args.self.now.root.now) c.children-test.true c.children.invariant.placed) in
    let test = met_test g.T.Theory.label_of (automaton_of g.T.Theory.atom_holds c.args.self.now.sttr.now.looks) c.args.self.now.root.now c.args.self.now.sizes.now c.args.self.now.marks.now.rows c.requires.scene (λ d. d.items) c.args.children.now c.args.demands.now c.children.child-index c.child-item.result c.index-demands-i.result c.children-test.true (omega (arith, c.children.invariant.at, c.if-i-demands.false)) c.child-item.is
    (c.index-demands-i.is ∙ ap (λ k. get_or c.args.demands.now k c.index-demands-i.result) c.children.invariant.at) c.children.number stands c.has_each.result (c.has_each.ensures ∙ ap (list_all (has (get_or c.args.self.now.marks.now.rows c.children.number []))) c.deref.ensures.value) in
    none_after _ _ _ test c.if-not-has_each.true ∙ c.children.invariant.met

pub bounds-self-number : goal.bounds-self-number
bounds-self-number g c =
    let stands : StandsAt c.children.number (nodes_of c.child-item.result) (nodes_of c.args.self.now.root.now) = subst (λ t. StandsAt c.children.number (nodes_of t) (nodes_of c.args.self.now.root.now)) (sym c.child-item.is) (child_stands c.children.number c.args.children.now c.children.child-index c.child-item.result (nodes_of c.args.self.now.root.now) c.children-test.true c.children.invariant.placed) in
    number_low g.T.Theory.label_of (automaton_of g.T.Theory.atom_holds c.args.self.now.sttr.now.looks) c.args.self.now.root.now c.args.self.now.sizes.now c.args.self.now.marks.now.rows c.requires.scene c.children.number c.child-item.result stands

pub overflow_add-number : goal.overflow_add-number
overflow_add-number g c =
    let stands : StandsAt c.children.number (nodes_of c.child-item.result) (nodes_of c.args.self.now.root.now) = subst (λ t. StandsAt c.children.number (nodes_of t) (nodes_of c.args.self.now.root.now)) (sym c.child-item.is) (child_stands c.children.number c.args.children.now c.children.child-index c.child-item.result (nodes_of c.args.self.now.root.now) c.children-test.true c.children.invariant.placed) in
    let size = ap (λ s. s.nodes) (size_placed g.T.Theory.label_of (automaton_of g.T.Theory.atom_holds c.args.self.now.sttr.now.looks) c.args.self.now.root.now c.args.self.now.sizes.now c.args.self.now.marks.now.rows c.requires.scene c.children.number c.child-item.result stands (record { nodes = 0; levels = 0 })) in
    omega (arith, size, placed_low g.T.Theory.label_of (automaton_of g.T.Theory.atom_holds c.args.self.now.sttr.now.looks) c.args.self.now.root.now c.args.self.now.sizes.now c.args.self.now.marks.now.rows c.requires.scene c.children.number c.child-item.result stands)

pub children-preserved : goal.children-preserved
children-preserved g c =
    let stands : StandsAt c.children.number (nodes_of c.child-item.result) (nodes_of c.args.self.now.root.now) = subst (λ t. StandsAt c.children.number (nodes_of t) (nodes_of c.args.self.now.root.now)) (sym c.child-item.is) (child_stands c.children.number c.args.children.now c.children.child-index c.child-item.result (nodes_of c.args.self.now.root.now) c.children-test.true c.children.invariant.placed) in
    let size = ap (λ s. s.nodes) (size_placed g.T.Theory.label_of (automaton_of g.T.Theory.atom_holds c.args.self.now.sttr.now.looks) c.args.self.now.root.now c.args.self.now.sizes.now c.args.self.now.marks.now.rows c.requires.scene c.children.number c.child-item.result stands (record { nodes = 0; levels = 0 })) in
    let test = met_test g.T.Theory.label_of (automaton_of g.T.Theory.atom_holds c.args.self.now.sttr.now.looks) c.args.self.now.root.now c.args.self.now.sizes.now c.args.self.now.marks.now.rows c.requires.scene (λ d. d.items) c.args.children.now c.args.demands.now c.children.child-index c.child-item.result c.index-demands-i.result c.children-test.true (omega (arith, c.children.invariant.at, c.if-i-demands.false)) c.child-item.is
    (c.index-demands-i.is ∙ ap (λ k. get_or c.args.demands.now k c.index-demands-i.result) c.children.invariant.at) c.children.number stands c.has_each.result (c.has_each.ensures ∙ ap (list_all (has (get_or c.args.self.now.marks.now.rows c.children.number []))) c.deref.ensures.value) in
    let here = ap (λ t. node_count t) c.child-item.is in
    record {
      at = omega (arith, c.children.invariant.at);
      low = omega (arith, c.if-i-demands.false);
      placed = next_stands c.children.number c.args.children.now c.children.child-index c.child-item.result (nodes_of c.args.self.now.root.now) c.children-test.true c.children.invariant.placed _ (omega (arith, size, here));
      met = rest_after _ _ _ test c.if-not-has_each.false ∙ c.children.invariant.met;
    }

pub returns : goal.returns
returns g c = sym (met_ended g.T.Theory.label_of (automaton_of g.T.Theory.atom_holds c.args.self.now.sttr.now.looks) c.args.self.now.root.now c.args.self.now.sizes.now c.args.self.now.marks.now.rows c.requires.scene c.args.children.now c.children.child-index (map (λ d. d.items) (drop c.children.child-index c.args.demands.now)) c.children-test.false) ∙ c.children.invariant.met
