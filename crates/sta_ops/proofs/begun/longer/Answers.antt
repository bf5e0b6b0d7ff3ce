use Rattle.std.proofs.Common.{ℕ, ◌↔◌, map, take, length, Contains, sym, subst}
use Rattle.model_sta.specs.Least.{rows_of, rows_at}
use Rattle.sta_core.specs.Machine.{plain_rule}
use Rattle.sta_theory.specs.Made.{AreNext}
use Rattle.sta_theory.proofs.Lists.{in_map}
use Rattle.sta_ops.specs.Opposites.{plain_begun, demands_in, opposite_in, AnyAsks, rows_in}
use Rattle.sta_ops.proofs.Asking.{classes_at, asked_low}
use Rattle.sta_ops.proofs.Growing.{mapped}
use Rattle.sta_ops.proofs.Nodes.{next_more, classes_more}
use Rattle.sta_ops.proofs.begun.longer.Goals as goal

pub asked_states-requires : goal.asked_states-requires
asked_states-requires g c = classes_at c.args.table.now.found c.args.nodes.now c.nodes.begun-index c.begun-item.result c.deref.result.now c.nodes-test.true c.begun-item.is c.deref.ensures.value c.requires.classes

pub add_next-requires : goal.add_next-requires
add_next-requires g c = record {
  states = asked_low (length c.args.opposites.now) c.args.constructor c.args.rules.now (rows_at c.args.table.now.found c.deref.result.now) c.as_slice.result.now c.requires.states
      (λ s at. (c.in_ok-asked.ensures s).0 (subst (λ l. Contains l s) c.as_slice.ensures.keys at));
}

pub nodes-preserved : goal.nodes-preserved
nodes-preserved g c =
    let rows = rows_of c.args.table.now.found in
    let rs = map plain_rule c.args.rules.now in
    let asked : (s : ℕ) → Contains c.as_slice.result.now s ↔ AnyAsks c.args.constructor rs (rows_in rows (plain_begun c.begun-item.result)) s =
    λ s. (
      (λ at. subst (λ l. AnyAsks c.args.constructor rs (rows_at c.args.table.now.found l) s) c.deref.ensures.value ((c.in_ok-asked.ensures s).0 (subst (λ l. Contains l s) c.as_slice.ensures.keys at))),
      (λ a. subst (λ l. Contains l s) (sym c.as_slice.ensures.keys) ((c.in_ok-asked.ensures s).1 (subst (λ l. AnyAsks c.args.constructor rs (rows_at c.args.table.now.found l) s) (sym c.deref.ensures.value) a))),
    ) in
    record {
      next = subst (λ l. AreNext (opposite_in c.args.opposites.now) (rows_in rows) demands_in (AnyAsks c.args.constructor rs) rows l (map plain_begun c.add_next.new.nodes.items)) (sym (mapped plain_begun c.args.nodes.now c.nodes.begun-index c.begun-item.result c.nodes-test.true c.begun-item.is))
          (next_more rows c.args.opposites.now (AnyAsks c.args.constructor rs) c.as_slice.result.now (plain_begun c.begun-item.result) asked (map plain_begun (take c.nodes.begun-index c.args.nodes.now)) (map plain_begun c.nodes.made.items) (map plain_begun c.add_next.new.nodes.items) c.nodes.invariant.next c.in_ok-add_next.ensures);
      classes = classes_more rows c.args.opposites.now (AnyAsks c.args.constructor rs) c.as_slice.result.now (plain_begun c.begun-item.result) asked (map plain_begun (take c.nodes.begun-index c.args.nodes.now)) (map plain_begun c.nodes.made.items) (map plain_begun c.add_next.new.nodes.items) c.nodes.invariant.next c.in_ok-add_next.ensures
          (c.requires.classes (plain_begun c.begun-item.result) (in_map plain_begun c.args.nodes.now c.begun-item.result (c.nodes.begun-index, c.nodes-test.true, sym c.begun-item.is))) c.nodes.invariant.classes;
    }
