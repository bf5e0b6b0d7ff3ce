use Rattle.std.proofs.Common.{◌≡◌, ◌+◌, ◌++◌, map, ap, sym, ◌∙◌, arith}
use Rattle.std.proofs.lemmas.List.{take_all}
use Rattle.model_sttr.specs.Cuts.{cut}
use Rattle.apply_laws.specs.Lists.{sum_of}
use Rattle.apply_laws.specs.Meant.{meant}
use Rattle.apply_laws.specs.Listing.{products}
use Rattle.sttr_apply.specs.Plain.{out_cut}
use Rattle.sttr_apply.specs.Products.{row_nodes, meant_rows}
use Rattle.sttr_apply.proofs.Rows.{sum_push, sum_more, sum_take, products_more, products_more_at, at_none, at_some}
use Rattle.sttr_apply.proofs.products.product.Goals as goal

pub returns-in-None-2-clause-none : goal.returns-in-None-2-clause-none
returns-in-None-2-clause-none g c =
    let more = sum_more (λ x. row_nodes x c.args.rests.items) c.deref-first-items.result.now c.firsts.first-index c.first-item.result c.firsts-test.true c.first-item.is in
    let part = sum_take (λ x. row_nodes x c.args.rests.items) c.deref-first-items.result.now (c.firsts.first-index + 1) in
    let these = ap (sum_of (λ x. row_nodes x c.args.rests.items)) c.deref-first-items.ensures.value in
    let all = ap (sum_of (λ x. row_nodes x c.args.rests.items)) c.in-Some.ensures.items in
    let front = sum_push (λ x. row_nodes x c.args.rests.items) c.pop.new.self.items c.in-Some.last in
    let none = at_none c.in_ok-now.field-0 c.in-None-2.is c.in_ok-now.ensures.none in
    let rests = ap (λ ys. row_nodes c.first-item.result ys) c.deref.ensures.value in
    omega (arith, none, c.firsts.invariant.left, more, part, these, all, front, rests)

pub firsts-preserved : goal.firsts-preserved
firsts-preserved g c =
    let label = g.T.Theory.label_of in
    let more = sum_more (λ x. row_nodes x c.args.rests.items) c.deref-first-items.result.now c.firsts.first-index c.first-item.result c.firsts-test.true c.first-item.is in
    let some = at_some c.in_ok-now.field-0 (λ now. now + row_nodes c.first-item.result c.deref.result.now ≡ c.firsts.left) c.in-Some-2.now c.in-Some-2.is c.in_ok-now.ensures.some in
    let rests = ap (λ ys. row_nodes c.first-item.result ys) c.deref.ensures.value in
    let rows = at_some c.in_ok-now.field-0 (λ _. meant_rows label c.add_copies.new.rows.items ≡ meant_rows label c.firsts.rows.items ++ map (cut (meant label (out_cut c.first-item.result))) (meant_rows label c.deref.result.now)) c.in-Some-2.now c.in-Some-2.is c.in_ok-now.ensures.rows in
    record {
      left = omega (arith, some, rests, c.firsts.invariant.left, more);
      rows = rows ∙ (λ i. c.firsts.invariant.rows i ++ map (cut (meant label (out_cut c.first-item.result))) (meant_rows label (c.deref.ensures.value i)))
          ∙ sym (products_more_at label c.deref-first-items.result.now c.firsts.first-index c.first-item.result (meant_rows label c.args.rests.items) c.firsts-test.true c.first-item.is);
    }

pub returns-in-Some-3-clause-rows : goal.returns-in-Some-3-clause-rows
returns-in-Some-3-clause-rows g c =
    let label = g.T.Theory.label_of in
    let rows = at_some c.in_ok-add_rows.field-0 (λ _. meant_rows label c.add_rows.new.rows.items ≡ meant_rows label c.firsts.rows.items ++ map (cut (meant label (out_cut c.in-Some.last))) (meant_rows label c.args.rests.items)) c.in-Some-3.field-0 c.in-Some-3.is c.in_ok-add_rows.ensures.rows in
    let front = c.firsts.invariant.rows ∙ ap (λ xs. products (map (meant label) (map out_cut xs)) (meant_rows label c.args.rests.items)) (take_all c.firsts.first-index c.deref-first-items.result.now c.firsts-test.false ∙ c.deref-first-items.ensures.value) in
    rows ∙ ap (λ xs. xs ++ map (cut (meant label (out_cut c.in-Some.last))) (meant_rows label c.args.rests.items)) front
    ∙ sym (products_more label c.pop.new.self.items c.in-Some.last (meant_rows label c.args.rests.items))
    ∙ ap (λ xs. products (map (meant label) (map out_cut xs)) (meant_rows label c.args.rests.items)) (sym c.in-Some.ensures.items)

pub returns-clause-none : goal.returns-clause-none
returns-clause-none g c =
    let these = ap (sum_of (λ x. row_nodes x c.args.rests.items)) (take_all c.firsts.first-index c.deref-first-items.result.now c.firsts-test.false ∙ c.deref-first-items.ensures.value) in
    let all = ap (sum_of (λ x. row_nodes x c.args.rests.items)) c.in-Some.ensures.items in
    let front = sum_push (λ x. row_nodes x c.args.rests.items) c.pop.new.self.items c.in-Some.last in
    let none = at_none c.in_ok-add_rows.field-0 c.in-None-3.is c.in_ok-add_rows.ensures.none in
    omega (arith, none, c.firsts.invariant.left, these, all, front)
