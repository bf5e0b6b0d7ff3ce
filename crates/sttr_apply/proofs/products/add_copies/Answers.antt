use Rattle.std.proofs.Common.{◌+◌, arith}
use Rattle.apply_laws.specs.Meant.{meant, all_meant}
use Rattle.sttr_apply.specs.Plain.{out_cut, row_cuts}
use Rattle.sttr_apply.specs.Products.{meant_rows}
use Rattle.sttr_apply.proofs.Rows.{sum_more, sum_take, rows_more_at, meant_first}
use Rattle.sttr_apply.proofs.products.add_copies.Goals as goal

pub returns-in-None-clause-none : goal.returns-in-None-clause-none
returns-in-None-clause-none g c =
    let more = sum_more (λ y. c.args.first.now.nodes + y.nodes) c.args.rests.now c.rests.rest-index c.rest-item.result c.rests-test.true c.rest-item.is in
    let part = sum_take (λ y. c.args.first.now.nodes + y.nodes) c.args.rests.now (c.rests.rest-index + 1) in
    omega (arith, c.in-None.ensures.none, c.rests.invariant.left, more, part)

pub rests-preserved : goal.rests-preserved
rests-preserved g c =
    let label = g.T.Theory.label_of in
    let more = sum_more (λ y. c.args.first.now.nodes + y.nodes) c.args.rests.now c.rests.rest-index c.rest-item.result c.rests-test.true c.rest-item.is in
    record {
      left = omega (arith, c.in-Some.ensures.some, c.rests.invariant.left, more);
      rows = rows_more_at label (meant_rows label c.args.rows.now.items) (meant label (out_cut c.args.first.now)) c.rests.rows.items c.push.new.self.items c.args.rests.now c.rests.rest-index c.in_ok-with_first.field-0 c.rest-item.result
          c.rests-test.true c.rest-item.is c.in_ok-push.ensures.items
          (meant_first label (row_cuts c.in_ok-with_first.field-0) (out_cut c.in_ok-first.first) (row_cuts c.in_ok-rest.rest) (meant label (out_cut c.args.first.now)) (all_meant label (row_cuts c.rest-item.result)) c.in_ok-with_first.ensures.cuts c.in_ok-first.ensures.meaning c.in_ok-rest.ensures.meaning)
          c.rests.invariant.rows;
    }
