use Rattle.std.proofs.Common.{◌≡◌, ◌+◌, map, subst, arith}
use Rattle.model_sta.specs.Least.{rows_of}
use Rattle.sta_core.specs.Machine.{plain_rule}
use Rattle.sta_theory.specs.Made.{AreNext}
use Rattle.sta_ops.specs.Opposites.{plain_begun, demands_in, opposite_in, AnyAsks, rows_in, AreAllBegun}
use Rattle.sta_ops.proofs.Nodes.{begun_none, none_classes, begun_more}
use Rattle.sta_ops.proofs.begun.all_begun.Goals as goal

pub places-init : goal.places-init
places-init g c = record {
  begun = begun_none (rows_of c.args.table.now.found) c.args.opposites.now (map plain_rule c.args.rules.now) c.args.constructor (map plain_begun c.in_ok-nodes.nodes.items) c.in_ok-nodes.ensures;
  classes = none_classes (rows_of c.args.table.now.found) c.args.opposites.now (map plain_rule c.args.rules.now) c.args.constructor (map plain_begun c.in_ok-nodes.nodes.items) c.in_ok-nodes.ensures;
}

pub places-preserved : goal.places-preserved
places-preserved g c =
    let rows = rows_of c.args.table.now.found in
    let rs = map plain_rule c.args.rules.now in
    record {
      begun = begun_more rows c.args.opposites.now rs c.args.constructor c.places.place (c.places.place + 1) (map plain_begun c.places.nodes.items) (map plain_begun c.in_ok-nodes-2.nodes.items) (omega arith) c.places.invariant.begun
          (subst (λ l. AreNext (opposite_in c.args.opposites.now) (rows_in rows) demands_in (AnyAsks c.args.constructor rs) rows (map plain_begun l) (map plain_begun c.in_ok-nodes-2.nodes.items)) c.deref.ensures.value c.in_ok-nodes-2.ensures.next);
      classes = c.in_ok-nodes-2.ensures.classes;
    }

pub returns-clause-begun : goal.returns-clause-begun
returns-clause-begun g c =
    let all : c.places.place ≡ c.args.rank = omega (arith, c.places-test.false) in
    subst (λ n. AreAllBegun (rows_of c.args.table.now.found) (map plain_rule c.args.rules.now) c.args.constructor c.args.opposites.now n (map plain_begun c.places.nodes.items)) all c.places.invariant.begun
