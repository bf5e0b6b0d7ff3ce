use Rattle.std.proofs.Common.{◌+◌, ◌++◌, ◌∷◌, [], inl, map, length, refl, ap, subst, ◌∙◌, arith}
use Rattle.std.proofs.lemmas.Iterator.Adapters.{YieldsList-from_vec}
use Rattle.std.proofs.lemmas.Iterator.Consumers.{YieldsList-end}
use Rattle.apply_laws.specs.Lists.{sum_of}
use Rattle.apply_laws.specs.Listing.{AreNodes}
use Rattle.sttr_apply.specs.Plain.{out_cut, row_cuts}
use Rattle.sttr_apply.proofs.Rows.{sum_push, next_whole, ended}
use Rattle.sttr_apply.proofs.NodesOver.{node_more, outs_many, roomless}
use Rattle.sttr_apply.proofs.nodes.nodes_over.Goals as goal

pub rows-preserved : goal.rows-preserved
rows-preserved g c =
    let label = g.T.Theory.label_of in
    record {
      whole = next_whole c.rows.yielded c.rows.row-iterator.rest.items c.next.new.self.rest.items c.in-Some-row.row (c.in-Some.last ∷ []) c.args.listing.rows.items c.rows.invariant.whole c.in-Some-row.ensures.steps.0;
      left = omega (arith, c.in-Ok.ensures.left, c.rows.invariant.left, sum_push (λ y. y.nodes + 1) c.rows.yielded c.in-Some-row.row);
      sum = omega (arith, ap (sum_of (λ o. o.nodes)) c.in_ok-push.ensures.items, sum_push (λ o. o.nodes) c.rows.outs.items c.node_over.result, c.node_over.ensures.nodes, c.rows.invariant.sum, sum_push (λ y. y.nodes + 1) c.rows.yielded c.in-Some-row.row);
      made = node_more label c.args.constructor (label c.args.label) c.rows.yielded c.in-Some-row.row c.rows.outs.items c.push.new.self.items c.node_over.result c.in_ok-label.label c.rows.invariant.made c.in_ok-push.ensures.items c.node_over.ensures.cut c.in_ok-label.ensures;
    }

pub returns-in-Err : goal.returns-in-Err
returns-in-Err g c =
    let label = g.T.Theory.label_of in
    roomless label c.args.constructor (label c.args.label) c.args.listing.far c.rows.left c.rows.yielded c.rows.row-iterator.rest.items c.next.new.self.rest.items (c.in-Some.last ∷ []) c.args.listing.rows.items c.in-Some-row.row c.in-Err.load c.rows.invariant.whole c.in-Some-row.ensures.steps.0 c.rows.invariant.left c.in-Err.ensures.none

pub returns-in-Err-room : goal.returns-in-Err-room
returns-in-Err-room g c =
    let label = g.T.Theory.label_of in
    let end = YieldsList-end (YieldsList-from_vec c.pop.new.self.items c.into_iter-row-iterator.ensures.into_iter_gives.0 (c.into_iter-row-iterator.ensures.into_iter_gives.1 ∙ c.pop.new.self.ok.0)) c.rows.yielded c.rows.row-iterator c.rows.yielded_by c.next.result c.next.new.self c.in-None-row.is c.next.ensures.steps in
    let all = ended c.rows.yielded c.pop.new.self.items c.args.listing.rows.items c.in-Some.last end.0 c.in-Some.ensures.items in
    roomless label c.args.constructor (label c.args.label) c.args.listing.far c.rows.left c.rows.yielded (c.in-Some.last ∷ []) [] [] c.args.listing.rows.items c.in-Some.last c.in-Err-room.load all refl c.rows.invariant.left c.in-Err-room.ensures.none

pub invariant_of-result-2 : goal.invariant_of-result-2
invariant_of-result-2 g c =
    let label = g.T.Theory.label_of in
    let end = YieldsList-end (YieldsList-from_vec c.pop.new.self.items c.into_iter-row-iterator.ensures.into_iter_gives.0 (c.into_iter-row-iterator.ensures.into_iter_gives.1 ∙ c.pop.new.self.ok.0)) c.rows.yielded c.rows.row-iterator c.rows.yielded_by c.next.result c.next.new.self c.in-None-row.is c.next.ensures.steps in
    let all = ended c.rows.yielded c.pop.new.self.items c.args.listing.rows.items c.in-Some.last end.0 c.in-Some.ensures.items in
    let made = node_more label c.args.constructor (label c.args.label) c.rows.yielded c.in-Some.last c.rows.outs.items c.push-2.new.self.items c.node_over-2.result c.args.label c.rows.invariant.made c.in_ok-push-2.ensures.items c.node_over-2.ensures.cut refl in
    let many = outs_many label c.args.constructor (label c.args.label) (c.rows.yielded ++ c.in-Some.last ∷ []) c.push-2.new.self.items made in
    let long = ap length all in
    let sums = sum_push (λ y. y.nodes + 1) c.rows.yielded c.in-Some.last in
    let pushed = ap (sum_of (λ o. o.nodes)) c.in_ok-push-2.ensures.items in
    let push = sum_push (λ o. o.nodes) c.rows.outs.items c.node_over-2.result in
    record {
      few = omega (arith, many, long, c.args.listing.few);
      light = omega (arith, pushed, push, c.node_over-2.ensures.nodes, c.rows.invariant.sum, c.rows.invariant.left, c.in-Ok-room.ensures.left);
    }

pub returns : goal.returns
returns g c =
    let label = g.T.Theory.label_of in
    let end = YieldsList-end (YieldsList-from_vec c.pop.new.self.items c.into_iter-row-iterator.ensures.into_iter_gives.0 (c.into_iter-row-iterator.ensures.into_iter_gives.1 ∙ c.pop.new.self.ok.0)) c.rows.yielded c.rows.row-iterator c.rows.yielded_by c.next.result c.next.new.self c.in-None-row.is c.next.ensures.steps in
    let all = ended c.rows.yielded c.pop.new.self.items c.args.listing.rows.items c.in-Some.last end.0 c.in-Some.ensures.items in
    let made = node_more label c.args.constructor (label c.args.label) c.rows.yielded c.in-Some.last c.rows.outs.items c.push-2.new.self.items c.node_over-2.result c.args.label c.rows.invariant.made c.in_ok-push-2.ensures.items c.node_over-2.ensures.cut refl in
    inl (c.requires, subst (λ rows. AreNodes label c.args.constructor (label c.args.label) (map row_cuts rows) (map out_cut c.push-2.new.self.items)) all made, refl)
