use Rattle.std.proofs.Common.{◌≡◌, ◌<◌, ◌+◌, ◌-◌, All, length, map, drop, take, sym, ap, subst, arith}
use Rattle.model_tree.specs.Tree.{label_of, children_of}
use Rattle.model_sttr.specs.Terms.{with_maps}
use Rattle.sttr_core.specs.Fits.{EveryMap}
use Rattle.sttr_core.specs.Machine.{transducer_of}
use Rattle.sttr_core.specs.Terms.{plain_term}
use Rattle.apply_laws.specs.Lists.{sum_of}
use Rattle.apply_laws.specs.Found.{listed, IsNodeFound}
use Rattle.apply_laws.specs.Terms.{ArePartsFound}
use Rattle.sttr_apply.specs.Calls.{calls, calls_of}
use Rattle.sttr_apply.specs.Labels.{keeps, Outside}
use Rattle.sttr_apply.specs.Plain.{out_cut, found_of, rows_found}
use Rattle.sttr_apply.specs.Tables.{HasUses, lists_in, parts_in}
use Rattle.sttr_apply.proofs.Used.{sum_mapped_more, calls_of_node}
use Rattle.sttr_apply.proofs.Tabled.{node_meaning, drop_part, maps_of_node}
use Rattle.sttr_apply.proofs.Gathered.{weight, weight_of_node, sum_at, sum_dropped, sum_in_two, rows_start, parts_start, part_found, node_found, call_found}
use Rattle.sttr_apply.proofs.scene.Scene.+term.Goals as goal

pub parts_found-parts-init : goal.parts_found-parts-init
parts_found-parts-init g t c =
    let rows = rows_start c.push.new.self.items c.in_ok-rows.rows.items _ c.in_ok-push.ensures.items c.in_ok-rows.ensures.items c.in_ok-with_capacity.ensures.items in
    record {
      low = omega arith;
      found = parts_start g.T.Theory.label_of g.T.Value.Ord.cmp g.met.T.Value.Ord.total g.met.T.Theory.equal_values (transducer_of g.T.Theory.atom_holds g.T.Labels.make c.args.self.now.sttr.now) (children_of c.args.place.now.tree.now) (g.T.Theory.label_of (label_of c.args.place.now.tree.now)) (λ p. with_maps g.T.Labels.make (plain_term p)) c.args.parts.now _ rows;
      table = c.requires.table;
      uses = λ q k low. let s = sum_in_two plain_term (calls q k) c.args.parts.now (length c.args.parts.now) in omega (arith, c.requires.uses q k low, s);
      keeps = λ q k low. omega arith;
    }

pub parts_found-parts-preserved : goal.parts_found-parts-preserved
parts_found-parts-preserved g t c =
    let up : c.parts.left ≡ c.parts.left - 1 + 1 = omega (arith, c.parts-test.true) in
    let low : c.parts.left - 1 < length c.args.parts.now = omega (arith, c.parts-test.true, c.parts.invariant.low) in
    record {
      low = omega (arith, low);
      found = part_found g.T.Theory.label_of g.T.Value.Ord.cmp g.met.T.Value.Ord.total g.met.T.Theory.equal_values (transducer_of g.T.Theory.atom_holds g.T.Labels.make c.args.self.now.sttr.now) (children_of c.args.place.now.tree.now) (g.T.Theory.label_of (label_of c.args.place.now.tree.now))
          (with_maps g.T.Labels.make (plain_term c.index-parts-left.result)) (parts_in (map (λ p. with_maps g.T.Labels.make (plain_term p)) (drop c.parts.left c.args.parts.now))) _ (found_of c.in_ok-first.first) (rows_found c.parts.found) (rows_found c.in_ok-found.found)
          (drop_part g.T.Labels.make c.args.parts.now (c.parts.left - 1) c.parts.left c.index-parts-left.result up low c.index-parts-left.is) c.in_ok-first.ensures.found c.parts.invariant.found c.in_ok-found.ensures;
      table = c.in_ok-first.ensures.table;
      uses = λ q k l.
          omega (arith, c.parts.invariant.uses q k (omega (arith, l, c.in_ok-first.ensures.table.width, c.parts.invariant.table.width)), c.in_ok-first.ensures.uses q k (omega (arith, l, c.in_ok-first.ensures.table.width, c.parts.invariant.table.width)), sum_mapped_more plain_term (calls q k) c.args.parts.now (c.parts.left - 1) c.index-parts-left.result low c.index-parts-left.is, ap (λ n. calls_of q k (map plain_term (take n c.args.parts.now))) up);
      keeps = λ q k l.
          omega (arith, c.parts.invariant.keeps q k l, c.in_ok-first.ensures.uses q k (omega (arith, l, c.requires.table.width, c.parts.invariant.table.width)), sum_dropped plain_term (calls q k) c.args.parts.now (c.parts.left - 1) c.parts.left c.index-parts-left.result up low c.index-parts-left.is);
    }

pub parts_found-returns-clause-uses : goal.parts_found-returns-clause-uses
parts_found-returns-clause-uses g t c = λ q k l.
    omega (arith, c.parts.invariant.keeps q k l, sum_in_two plain_term (calls q k) c.args.parts.now c.parts.left)

pub term_found-returns-in_ok-listing-in-Call-clause-found : goal.term_found-returns-in_ok-listing-in-Call-clause-found
term_found-returns-in_ok-listing-in-Call-clause-found g t c =
    call_found g.T.Theory.label_of g.T.Value.Ord.cmp g.met.T.Value.Ord.total g.met.T.Theory.equal_values (transducer_of g.T.Theory.atom_holds g.T.Labels.make c.args.self.now.sttr.now) (children_of c.args.place.now.tree.now) (g.T.Theory.label_of (label_of c.args.place.now.tree.now)) g.T.Labels.make c.args.term.now c.in-Call.state c.in-Call.child
    (listed (map out_cut c.in_ok-listing-in-Call.listing.outs.items) c.in_ok-listing-in-Call.listing.far) c.in-Call.is c.in_ok-listing-in-Call.ensures.found

pub term_found-returns-in_ok-listing-in-Call-clause-uses : goal.term_found-returns-in_ok-listing-in-Call-clause-uses
term_found-returns-in_ok-listing-in-Call-clause-uses g t c = λ q k l.
    omega (arith, c.in_ok-listing-in-Call.ensures.uses q k l, ap (λ t. calls q k (plain_term t)) c.in-Call.is)

pub term_found-returns-in_ok-found-in-Node-clause-found : goal.term_found-returns-in_ok-found-in-Node-clause-found
term_found-returns-in_ok-found-in-Node-clause-found g t c =
    node_found g.T.Theory.label_of g.T.Value.Ord.cmp g.met.T.Value.Ord.total g.met.T.Theory.equal_values (transducer_of g.T.Theory.atom_holds g.T.Labels.make c.args.self.now.sttr.now) (children_of c.args.place.now.tree.now) (g.T.Theory.label_of (label_of c.args.place.now.tree.now))
    (with_maps g.T.Labels.make (plain_term c.args.term.now)) c.in-Node.constructor (g.T.Labels.make c.in-Node.map) (parts_in (map (λ p. with_maps g.T.Labels.make (plain_term p)) c.in-Node.parts.items)) (rows_found c.in_ok-rows-in-Node.rows) (found_of c.in_ok-found-in-Node.found)
    (node_meaning g.T.Labels.make c.args.term.now c.in-Node.constructor c.in-Node.map c.in-Node.parts c.in-Node.is)
    (subst (λ ps. ArePartsFound g.T.Theory.label_of g.T.Value.Ord.cmp keeps Outside (transducer_of g.T.Theory.atom_holds g.T.Labels.make c.args.self.now.sttr.now) (children_of c.args.place.now.tree.now) (g.T.Theory.label_of (label_of c.args.place.now.tree.now)) (parts_in (map (λ p. with_maps g.T.Labels.make (plain_term p)) ps)) (rows_found c.in_ok-rows-in-Node.rows)) c.deref.ensures.value c.in_ok-rows-in-Node.ensures.found)
    (subst (λ v. IsNodeFound g.T.Theory.label_of keeps Outside c.in-Node.constructor (g.T.Labels.make c.in-Node.map (g.T.Theory.label_of v)) (rows_found c.in_ok-rows-in-Node.rows) (found_of c.in_ok-found-in-Node.found)) c.label-value.ensures c.in_ok-found-in-Node.ensures)

pub term_found-returns-in_ok-found-in-Node-clause-uses : goal.term_found-returns-in_ok-found-in-Node-clause-uses
term_found-returns-in_ok-found-in-Node-clause-uses g t c = λ q k l.
    omega (arith, c.in_ok-rows-in-Node.ensures.uses q k l, ap (λ ps. calls_of q k (map plain_term ps)) c.deref.ensures.value, calls_of_node q k c.args.term.now c.in-Node.constructor c.in-Node.map c.in-Node.parts c.in-Node.is)

pub parts_found-term_found-requires : goal.parts_found-term_found-requires
parts_found-term_found-requires g t c κs within =
    let before = c.decreases in
    let up : c.parts.left ≡ c.parts.left - 1 + 1 = omega (arith, c.parts-test.true) in
    let low : c.parts.left - 1 < length c.args.parts.now = omega (arith, c.parts-test.true, c.parts.invariant.low) in
    let light = sum_at plain_term weight c.args.parts.now (c.parts.left - 1) c.index-parts-left.result low c.index-parts-left.is in
    let maps : EveryMap (g.T.Labels.map_fits c.args.self.now.theory.now) (plain_term c.index-parts-left.result) = subst (λ p. EveryMap (g.T.Labels.map_fits c.args.self.now.theory.now) (plain_term p)) (sym c.index-parts-left.is) (c.requires.maps (c.parts.left - 1) c.index-parts-left.result low) in
    let uses : HasUses (lists_in c.parts.table.items) (λ q k. calls q k (plain_term c.index-parts-left.result)) = λ q k l. omega (arith, c.parts.invariant.uses q k l, sum_mapped_more plain_term (calls q k) c.args.parts.now (c.parts.left - 1) c.index-parts-left.result low c.index-parts-left.is, ap (λ n. calls_of q k (map plain_term (take n c.args.parts.now))) up) in
    (omega (arith, before, light), (within.0, (within.1.0, (within.1.1.0, (within.1.1.1.0, (within.1.1.1.1, (c.requires.scene, (c.requires.placed, (c.requires.kept, (c.requires.value, (maps, (c.parts.invariant.table, uses))))))))))))

pub term_found-parts_found-requires : goal.term_found-parts_found-requires
term_found-parts_found-requires g t c κs within =
    let before = c.decreases in
    let light = weight_of_node c.args.term.now c.in-Node.constructor c.in-Node.map c.in-Node.parts c.in-Node.is in
    let lighter = ap (λ ps. sum_of weight (map plain_term ps)) c.deref.ensures.value in
    let maps : All (λ p. EveryMap (g.T.Labels.map_fits c.args.self.now.theory.now) (plain_term p)) c.deref.result.now = subst (All (λ p. EveryMap (g.T.Labels.map_fits c.args.self.now.theory.now) (plain_term p))) (sym c.deref.ensures.value) (maps_of_node (g.T.Labels.map_fits c.args.self.now.theory.now) c.args.term.now c.in-Node.constructor c.in-Node.map c.in-Node.parts c.in-Node.is c.requires.maps).1 in
    let uses : HasUses (lists_in c.args.table.now.items) (λ q k. calls_of q k (map plain_term c.deref.result.now)) = λ q k l. omega (arith, c.requires.uses q k l, ap (λ ps. calls_of q k (map plain_term ps)) c.deref.ensures.value, calls_of_node q k c.args.term.now c.in-Node.constructor c.in-Node.map c.in-Node.parts c.in-Node.is) in
    (omega (arith, before, light, lighter), (within.0, (within.1.0, (within.1.1.0, (within.1.1.1.0, (within.1.1.1.1, (c.requires.scene, (c.requires.placed, (c.requires.kept, (c.requires.value, (maps, (c.requires.table, uses))))))))))))
