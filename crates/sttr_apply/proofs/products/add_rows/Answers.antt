use Rattle.std.proofs.Common.{◌+◌, ◌++◌, ◌∷◌, [], map, refl, ap, ◌∙◌, arith}
use Rattle.std.proofs.lemmas.Iterator.Adapters.{YieldsList-from_vec}
use Rattle.std.proofs.lemmas.Iterator.Consumers.{YieldsList-end}
use Rattle.model_sttr.specs.Cuts.{cut}
use Rattle.apply_laws.specs.Lists.{sum_of}
use Rattle.apply_laws.specs.Meant.{meant, all_meant}
use Rattle.sttr_apply.specs.Plain.{out_cut, row_cuts}
use Rattle.sttr_apply.specs.Products.{meant_rows}
use Rattle.sttr_apply.proofs.Rows.{sum_push, rows_more, meant_first, next_whole, next_sum, ended}
use Rattle.sttr_apply.proofs.products.add_rows.Goals as goal

pub returns-in-None-without-clause-none : goal.returns-in-None-without-clause-none
returns-in-None-without-clause-none g c =
    let some = next_sum (λ y. c.args.first.nodes + y.nodes) c.rests.yielded c.rests.rest-iterator.rest.items c.next.new.self.rest.items c.in-Some-rest.rest (c.in-Some.last ∷ []) c.args.rests.items c.rests.invariant.whole c.in-Some-rest.ensures.steps.0 in
    omega (arith, c.in-None-without.ensures.none, c.rests.invariant.left, some)

pub rests-preserved : goal.rests-preserved
rests-preserved g c =
    let label = g.T.Theory.label_of in
    record {
      whole = next_whole c.rests.yielded c.rests.rest-iterator.rest.items c.next.new.self.rest.items c.in-Some-rest.rest (c.in-Some.last ∷ []) c.args.rests.items c.rests.invariant.whole c.in-Some-rest.ensures.steps.0;
      left = omega (arith, c.in-Some-without.ensures.some, c.rests.invariant.left, sum_push (λ y. c.args.first.nodes + y.nodes) c.rests.yielded c.in-Some-rest.rest);
      rows = rows_more label (meant_rows label c.args.rows.now.items) (meant label (out_cut c.args.first)) c.rests.rows.items c.push.new.self.items c.rests.yielded c.in_ok-with_first.field-0 c.in-Some-rest.rest
          c.in_ok-push.ensures.items
          (meant_first label (row_cuts c.in_ok-with_first.field-0) (out_cut c.in_ok-first.first) (row_cuts c.in-Some-rest.rest) (meant label (out_cut c.args.first)) (all_meant label (row_cuts c.in-Some-rest.rest)) c.in_ok-with_first.ensures.cuts c.in_ok-first.ensures.meaning refl)
          c.rests.invariant.rows;
    }

pub returns-in-None-without-2-clause-none : goal.returns-in-None-without-2-clause-none
returns-in-None-without-2-clause-none g c =
    let end = YieldsList-end (YieldsList-from_vec c.pop.new.self.items c.into_iter-rest-iterator.ensures.into_iter_gives.0 (c.into_iter-rest-iterator.ensures.into_iter_gives.1 ∙ c.pop.new.self.ok.0)) c.rests.yielded c.rests.rest-iterator c.rests.yielded_by c.next.result c.next.new.self c.in-None-rest.is c.next.ensures.steps in
    let all = ended c.rests.yielded c.pop.new.self.items c.args.rests.items c.in-Some.last end.0 c.in-Some.ensures.items in
    let sum = sum_push (λ y. c.args.first.nodes + y.nodes) c.rests.yielded c.in-Some.last in
    let whole = ap (sum_of (λ y. c.args.first.nodes + y.nodes)) all in
    omega (arith, c.in-None-without-2.ensures.none, c.rests.invariant.left, sum, whole)

pub returns-clause-rows : goal.returns-clause-rows
returns-clause-rows g c =
    let label = g.T.Theory.label_of in
    let end = YieldsList-end (YieldsList-from_vec c.pop.new.self.items c.into_iter-rest-iterator.ensures.into_iter_gives.0 (c.into_iter-rest-iterator.ensures.into_iter_gives.1 ∙ c.pop.new.self.ok.0)) c.rests.yielded c.rests.rest-iterator c.rests.yielded_by c.next.result c.next.new.self c.in-None-rest.is c.next.ensures.steps in
    let all = ended c.rests.yielded c.pop.new.self.items c.args.rests.items c.in-Some.last end.0 c.in-Some.ensures.items in
    rows_more label (meant_rows label c.args.rows.now.items) (meant label (out_cut c.args.first)) c.rests.rows.items c.push-2.new.self.items c.rests.yielded c.in_ok-with_first-2.field-0 c.in-Some.last
    c.in_ok-push-2.ensures.items (ap (all_meant label) c.in_ok-with_first-2.ensures.cuts) c.rests.invariant.rows
    ∙ ap (λ xs. meant_rows label c.args.rows.now.items ++ map (cut (meant label (out_cut c.args.first))) (meant_rows label xs)) all
