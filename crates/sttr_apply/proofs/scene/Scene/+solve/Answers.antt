use Rattle.std.proofs.Common.{◌≡◌, ◌<◌, ◌+◌, ◌∷◌, [], true, refl, length, length-append, get_or, map, sym, ap, subst, ◌∙◌, arith}
use Rattle.std.specs.List.{All}
use Rattle.std.proofs.lemmas.List.{length-map, map-append}
use Rattle.model_tree.specs.Tree.{depth, depth_all, node_count, trees_of, children_of, relabel, relabel_all, EveryLabel, EveryLabelOfAll}
use Rattle.model_tree.specs.TreeCode.{trees_of-list_of}
use Rattle.model_tree.proofs.Trees.{depth_of_children, depth_of_child}
use Rattle.model_sttr.specs.Terms.{with_maps}
use Rattle.label_core.specs.Meaning.{KeepsValue}
use Rattle.sta_core.specs.Sta.{automaton_of}
use Rattle.sttr_core.specs.Machine.{transducer_of}
use Rattle.sttr_core.specs.Terms.{plain_term}
use Rattle.sta_marks.specs.Nodes.{nodes_of, nodes_of_all}
use Rattle.apply_laws.specs.Listing.{all_kept, each_kept}
use Rattle.apply_laws.specs.Found.{listed}
use Rattle.sta_marks.proofs.Passed.{length-nodes_of}
use Rattle.sttr_apply.specs.Calls.{calls_each, used, asks_in}
use Rattle.apply_laws.specs.Terms.{IsCallFoundAt}
use Rattle.sttr_apply.specs.Labels.{keeps, Outside}
use Rattle.sttr_apply.specs.Plain.{out_cut}
use Rattle.sttr_apply.specs.Sizes.{StandsAt}
use Rattle.sttr_apply.specs.Solve.{IsStop, IsStopBelow, IsEntry}
use Rattle.sttr_apply.specs.Tables.{lists_in}
use Rattle.sttr_apply.proofs.Placed.{child_stands, next_stands, number_low, placed_low, size_placed, stands_low, children_stand}
use Rattle.sttr_apply.proofs.Asked.{stop_above, stop_at, found_at, kept_child, kept_children, every_child, every_below, same_children, calls_each_with, each_of, found_push, has_push, children_few, contains_none, err_exit}
use Rattle.sttr_apply.proofs.scene.Scene.+solve.Goals as goal

pub below-children-init : goal.below-children-init
below-children-init g t c = record {
  at = refl;
  width = ap length c.new-table.ensures.items;
  placed = subst (λ ts. StandsAt c.args.place.now.first (nodes_of_all ts) (nodes_of c.args.self.now.root.now)) (sym (ap trees_of c.children-child-items.ensures ∙ trees_of-list_of (children_of c.args.place.now.tree.now))) c.requires.placed;
  found = λ k e has u. absurd (contains_none _ (ap (λ xs. get_or (lists_in xs) k []) c.new-table.ensures.items) e has);
  uses = λ q k l. let none = ap (λ xs. length (lists_in xs)) c.new-table.ensures.items in absurd (omega (arith, l, none));
}

pub below-children-preserved : goal.below-children-preserved
below-children-preserved g t c =
    let stands = subst (λ t. StandsAt c.children.number (nodes_of t) (nodes_of c.args.self.now.root.now)) (sym c.child-item.is) (child_stands c.children.number c.children-child-items.result.now c.children.child-index c.child-item.result (nodes_of c.args.self.now.root.now) c.children-test.true c.children.invariant.placed) in
    let size = ap (λ s. s.nodes) (size_placed g.T.Theory.label_of (automaton_of g.T.Theory.atom_holds c.args.self.now.sttr.now.looks) c.args.self.now.root.now c.args.self.now.sizes.now c.args.self.now.marks.now.rows c.requires.scene c.children.number c.child-item.result stands (record { nodes = 0; levels = 0 })) in
    let at : c.children.child-index ≡ length c.children.table.items = sym c.children.invariant.width in
    let long = length-map c.children.table.items (λ v. v.items) in
    record {
      at = omega (arith, c.children.invariant.at);
      width = let more = ap length c.in_ok-push.ensures.items in let put = length-append c.children.table.items (c.in_ok-solve.field-0 ∷ []) in omega (arith, more, put, c.children.invariant.width);
      placed = next_stands c.children.number c.children-child-items.result.now c.children.child-index c.child-item.result (nodes_of c.args.self.now.root.now) c.children-test.true c.children.invariant.placed _ (omega (arith, size, ap node_count c.child-item.is));
      found = found_push g.T.Theory.label_of g.T.Value.Ord.cmp (transducer_of g.T.Theory.atom_holds g.T.Labels.make c.args.self.now.sttr.now) c.args.place.now.tree.now (lists_in c.children.table.items) _ c.in_ok-solve.field-0.items c.children.child-index (ap lists_in c.in_ok-push.ensures.items ∙ map-append (λ v. v.items) c.children.table.items (c.in_ok-solve.field-0 ∷ [])) (omega (arith, at, long)) c.children.invariant.found
          (λ e has. subst (λ ts. IsCallFoundAt g.T.Theory.label_of g.T.Value.Ord.cmp keeps Outside (transducer_of g.T.Theory.atom_holds g.T.Labels.make c.args.self.now.sttr.now) e.state c.children.child-index ts (listed (map out_cut e.listing.outs.items) e.listing.far)) (ap trees_of c.children-child-items.ensures ∙ trees_of-list_of (children_of c.args.place.now.tree.now))
          (found_at g.T.Theory.label_of g.T.Value.Ord.cmp (transducer_of g.T.Theory.atom_holds g.T.Labels.make c.args.self.now.sttr.now) e.state c.children-child-items.result.now c.children.child-index c.child-item.result (listed (map out_cut e.listing.outs.items) e.listing.far) c.children-test.true c.child-item.is (each_of (IsEntry (transducer_of g.T.Theory.atom_holds g.T.Labels.make c.args.self.now.sttr.now) g.T.Theory.label_of g.T.Value.Ord.cmp c.child-item.result) c.in_ok-solve.field-0.items c.in_ok-solve.ensures.entries e has)));
      uses = has_push g.T.Theory.label_of g.T.Value.Ord.cmp (transducer_of g.T.Theory.atom_holds g.T.Labels.make c.args.self.now.sttr.now) c.args.place.now.tree.now (lists_in c.children.table.items) _ c.in_ok-solve.field-0.items c.children.child-index (λ q k. calls_each q k (map (λ those. map (λ t. plain_term t.now) those.items) c.args.lists.now)) (ap lists_in c.in_ok-push.ensures.items ∙ map-append (λ v. v.items) c.children.table.items (c.in_ok-solve.field-0 ∷ [])) (omega (arith, at, long)) c.children.invariant.uses
          (λ q. let asked = ap (λ xs. used xs q) c.in_ok-solve.ensures.uses in let same = ap (λ xs. used (asks_in xs) q) c.deref.ensures.value in omega (arith, asked, same, c.in_ok-asks.ensures.used q, ap (λ k. calls_each q k (map (λ those. map (λ t. plain_term t.now) those.items) c.args.lists.now)) c.children.invariant.at));
    }

pub below-overflow_add-number : goal.below-overflow_add-number
below-overflow_add-number g t c =
    let stands = subst (λ t. StandsAt c.children.number (nodes_of t) (nodes_of c.args.self.now.root.now)) (sym c.child-item.is) (child_stands c.children.number c.children-child-items.result.now c.children.child-index c.child-item.result (nodes_of c.args.self.now.root.now) c.children-test.true c.children.invariant.placed) in
    let size = ap (λ s. s.nodes) (size_placed g.T.Theory.label_of (automaton_of g.T.Theory.atom_holds c.args.self.now.sttr.now.looks) c.args.self.now.root.now c.args.self.now.sizes.now c.args.self.now.marks.now.rows c.requires.scene c.children.number c.child-item.result stands (record { nodes = 0; levels = 0 })) in
    let few = placed_low g.T.Theory.label_of (automaton_of g.T.Theory.atom_holds c.args.self.now.sttr.now.looks) c.args.self.now.root.now c.args.self.now.sizes.now c.args.self.now.marks.now.rows c.requires.scene c.children.number c.child-item.result stands in
    omega (arith, few, size)

pub below-bounds-self-number : goal.below-bounds-self-number
below-bounds-self-number g t c =
    let stands = subst (λ t. StandsAt c.children.number (nodes_of t) (nodes_of c.args.self.now.root.now)) (sym c.child-item.is) (child_stands c.children.number c.children-child-items.result.now c.children.child-index c.child-item.result (nodes_of c.args.self.now.root.now) c.children-test.true c.children.invariant.placed) in
    number_low g.T.Theory.label_of (automaton_of g.T.Theory.atom_holds c.args.self.now.sttr.now.looks) c.args.self.now.root.now c.args.self.now.sizes.now c.args.self.now.marks.now.rows c.requires.scene c.children.number c.child-item.result stands

pub below-overflow_add-i : goal.below-overflow_add-i
below-overflow_add-i g t c =
    let whole = stands_low c.args.place.now.first (nodes_of_all (children_of c.args.place.now.tree.now)) (nodes_of c.args.self.now.root.now) c.requires.placed in
    let kids = children_few c.children-child-items.result.now in
    let same = ap (λ ts. length (nodes_of_all ts)) (ap trees_of c.children-child-items.ensures ∙ trees_of-list_of (children_of c.args.place.now.tree.now)) in
    let all = length-nodes_of c.args.self.now.root.now in
    omega (arith, whole, kids, same, all, c.requires.scene.few, c.children.invariant.at, c.children-test.true)

pub below-returns-clause-table : goal.below-returns-clause-table
below-returns-clause-table g t c = record {
  width = let long = length-map c.children.table.items (λ v. v.items) in let kids = ap length c.children-child-items.ensures in omega (arith, long, kids, c.children.invariant.width, c.children-test.false, c.children.auto.child-index-end);
  found = c.children.invariant.found;
}

pub below-returns-in_err-solve-clause-stop : goal.below-returns-in_err-solve-clause-stop
below-returns-in_err-solve-clause-stop g t c =
    err_exit (IsStopBelow (transducer_of g.T.Theory.atom_holds g.T.Labels.make c.args.self.now.sttr.now) (λ q k. calls_each q k (map (λ those. map (λ t. plain_term t.now) those.items) c.args.lists.now)) (relabel_all g.T.Theory.label_of (children_of c.args.place.now.tree.now))) c.in_err-solve.field-0.0 c.from_residual-in_err-solve.result c.from_residual-in_err-solve.ensures.1
    (subst (λ ts. IsStopBelow (transducer_of g.T.Theory.atom_holds g.T.Labels.make c.args.self.now.sttr.now) (λ q k. calls_each q k (map (λ those. map (λ t. plain_term t.now) those.items) c.args.lists.now)) (relabel_all g.T.Theory.label_of ts) c.in_err-solve.field-0.0) (ap trees_of c.children-child-items.ensures ∙ trees_of-list_of (children_of c.args.place.now.tree.now))
    (stop_at g.T.Theory.label_of (transducer_of g.T.Theory.atom_holds g.T.Labels.make c.args.self.now.sttr.now) c.children-child-items.result.now c.children.child-index c.child-item.result (used (asks_in c.deref.result.now)) (λ q k. calls_each q k (map (λ those. map (λ t. plain_term t.now) those.items) c.args.lists.now)) c.children-test.true c.child-item.is (λ q. ap (λ xs. used (asks_in xs) q) c.deref.ensures.value ∙ (c.in_ok-asks.ensures.used q ∙ ap (λ k. calls_each q k (map (λ those. map (λ t. plain_term t.now) those.items) c.args.lists.now)) c.children.invariant.at)) c.in_err-solve.field-0.0 c.in_err-solve.ensures.stop))

pub below-solve-requires : goal.below-solve-requires
below-solve-requires g t c κs within =
    let before = c.decreases in
    let deeper = depth_of_child c.children-child-items.result.now c.children.child-index c.child-item.result c.children-test.true in
    let here = ap depth c.child-item.is in
    let whole = depth_of_children c.args.place.now.tree.now in
    let same = ap (λ ts. depth_all (trees_of ts)) c.children-child-items.ensures in
    let stands = subst (λ t. StandsAt c.children.number (nodes_of t) (nodes_of c.args.self.now.root.now)) (sym c.child-item.is) (child_stands c.children.number c.children-child-items.result.now c.children.child-index c.child-item.result (nodes_of c.args.self.now.root.now) c.children-test.true c.children.invariant.placed) in
    let kept : all_kept keeps (relabel g.T.Theory.label_of c.child-item.result) ≡ true = kept_child g.T.Theory.label_of c.children-child-items.result.now c.children.child-index c.child-item.result c.children-test.true c.child-item.is (ap (λ ts. each_kept keeps (relabel_all g.T.Theory.label_of ts)) (ap trees_of c.children-child-items.ensures ∙ trees_of-list_of (children_of c.args.place.now.tree.now)) ∙ c.requires.kept) in
    let values : EveryLabel (KeepsValue (g.T.Theory.meaning c.args.self.now.theory.now)) c.child-item.result = every_child (KeepsValue (g.T.Theory.meaning c.args.self.now.theory.now)) c.children-child-items.result.now c.children.child-index c.child-item.result c.children-test.true c.child-item.is (subst (EveryLabelOfAll (KeepsValue (g.T.Theory.meaning c.args.self.now.theory.now))) (sym (ap trees_of c.children-child-items.ensures ∙ trees_of-list_of (children_of c.args.place.now.tree.now))) c.requires.values) in
    let some : All (λ a. 0 < a.uses) c.deref.result.now = subst (All (λ a. 0 < a.uses)) (sym c.deref.ensures.value) c.in_ok-asks.ensures.some in
    (omega (arith, before, deeper, here, whole, same), (within.0, (within.1.0, (within.1.1.0, (within.1.1.1.0, (within.1.1.1.1, (c.requires.fits, (c.requires.scene, (stands, (kept, (values, some)))))))))))

pub solve-overflow_add-first : goal.solve-overflow_add-first
solve-overflow_add-first g t c =
    let few = placed_low g.T.Theory.label_of (automaton_of g.T.Theory.atom_holds c.args.self.now.sttr.now.looks) c.args.self.now.root.now c.args.self.now.sizes.now c.args.self.now.marks.now.rows c.requires.scene c.args.number c.args.tree.now c.requires.placed in
    omega (arith, few)

pub solve-all_terms-requires-clause-placed : goal.solve-all_terms-requires-clause-placed
solve-all_terms-requires-clause-placed g t c = children_stand c.args.number c.args.tree.now (nodes_of c.args.self.now.root.now) c.requires.placed

pub solve-entries-requires-clause-placed : goal.solve-entries-requires-clause-placed
solve-entries-requires-clause-placed g t c = children_stand c.args.number c.args.tree.now (nodes_of c.args.self.now.root.now) c.requires.placed

pub solve-returns-in_err-table-clause-stop : goal.solve-returns-in_err-table-clause-stop
solve-returns-in_err-table-clause-stop g t c =
    err_exit (IsStop (transducer_of g.T.Theory.atom_holds g.T.Labels.make c.args.self.now.sttr.now) (used (asks_in c.args.asks.now)) (relabel g.T.Theory.label_of c.args.tree.now)) c.in_err-table.field-0.0 c.from_residual-in_err-table.result c.from_residual-in_err-table.ensures.1
    (stop_above (transducer_of g.T.Theory.atom_holds g.T.Labels.make c.args.self.now.sttr.now) (relabel g.T.Theory.label_of c.args.tree.now) c.args.asks.now (λ q k. calls_each q k (map (λ those. map (λ t. plain_term t.now) those.items) c.deref.result.now)) c.requires.some
    (λ q k. sym (calls_each_with g.T.Labels.make q k (λ t. plain_term t.now) (λ those. those.items) c.deref.result.now) ∙ ap (calls_each q k) (ap (map (λ those. map (λ t. with_maps g.T.Labels.make (plain_term t.now)) those.items)) c.deref.ensures.value ∙ c.in_ok-lists.ensures.terms))
    c.in_err-table.field-0.0 (subst (λ ts. IsStopBelow (transducer_of g.T.Theory.atom_holds g.T.Labels.make c.args.self.now.sttr.now) (λ q k. calls_each q k (map (λ those. map (λ t. plain_term t.now) those.items) c.deref.result.now)) ts c.in_err-table.field-0.0) (sym (same_children g.T.Theory.label_of c.args.tree.now)) c.in_err-table.ensures.stop))

pub solve-entries-requires-clause-uses : goal.solve-entries-requires-clause-uses
solve-entries-requires-clause-uses g t c = λ q k l.
    let one = ap (λ ls. calls_each q k (map (λ those. map (λ t. plain_term t.now) those.items) ls)) c.deref.ensures.value in
    let two = ap (λ ls. calls_each q k (map (λ those. map (λ t. plain_term t.now) those.items) ls)) c.deref-2.ensures.value in
    omega (arith, c.in_ok-table.ensures.uses q k l, one, two)

pub solve-below-requires : goal.solve-below-requires
solve-below-requires g t c κs within =
    let before = c.decreases in
    let placed : StandsAt (c.args.number + 1) (nodes_of_all (children_of c.args.tree.now)) (nodes_of c.args.self.now.root.now) = children_stand c.args.number c.args.tree.now (nodes_of c.args.self.now.root.now) c.requires.placed in
    let kept : each_kept keeps (relabel_all g.T.Theory.label_of (children_of c.args.tree.now)) ≡ true = kept_children g.T.Theory.label_of c.args.tree.now c.requires.kept in
    let values : EveryLabelOfAll (KeepsValue (g.T.Theory.meaning c.args.self.now.theory.now)) (children_of c.args.tree.now) = every_below (KeepsValue (g.T.Theory.meaning c.args.self.now.theory.now)) c.args.tree.now c.requires.values in
    (omega (arith, before), (within.0, (within.1.0, (within.1.1.0, (within.1.1.1.0, (within.1.1.1.1, (c.requires.fits, (c.requires.scene, (placed, (kept, values))))))))))
