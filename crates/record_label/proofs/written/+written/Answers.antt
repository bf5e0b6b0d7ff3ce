use Rattle.std.proofs.Common.{◌+◌, ◌++◌, false, drop, map, refl, ap, sym, ◌∙◌}
use Rattle.std.proofs.lemmas.List.{at_drop_all}
use Rattle.fast_syntax.specs.Plain.{plain_expr, plain_node}
use Rattle.fast_syntax.specs.Slices.{plain_sum_parts, plain_prod_parts}
use Rattle.fast_syntax.proofs.Rows.{plain_sum_of, plain_product_of}
use Rattle.record_label.specs.Parts.{unmarked}
use Rattle.record_label.specs.Written.{first_mark, marks_of, marks_of_parts, later_marks}
use Rattle.record_label.proofs.Pieces.{first_added, adds_more, all_added, alone_added, none_behind, part_behind, operands_behind, one_part, no_part}
use Rattle.record_label.proofs.FormFacts.{sum_at, product_at, operand_at}
use Rattle.record_label.proofs.written.+written.Goals as goal

pub add_operands-loop-part-init : goal.add_operands-loop-part-init
add_operands-loop-part-init t c = λ kept. (kept, refl)

pub add_operands-loop-part-preserved : goal.add_operands-loop-part-preserved
add_operands-loop-part-preserved t c =
    let it = c.part-item.result in
    let ps = c.args.parts.now in
    let i = c.loop-part.part-index in
    one_part false (plain_expr it) (unmarked (map plain_expr (drop (i + 1) ps))) (unmarked (map plain_expr (drop i ps))) (unmarked (map plain_expr (ps))) c.args.pieces.now c.loop-part.pieces c.add.new.self c.add_marks.new.pieces (operand_at ps i it c.loop-part-test.true c.part-item.is) c.add.ensures c.add_marks.ensures c.loop-part.invariant

pub add_operands-returns : goal.add_operands-returns
add_operands-returns t c =
    let ps = c.args.parts.now in
    let i = c.loop-part.part-index in
    no_part (unmarked (map plain_expr (drop i ps))) (unmarked (map plain_expr (ps))) c.args.pieces.now c.loop-part.pieces c.add-2.new.self (at_drop_all (λ xs. unmarked (map plain_expr xs)) ps i c.loop-part-test.false) c.add-2.ensures c.loop-part.invariant

pub add_summands-loop-part-init : goal.add_summands-loop-part-init
add_summands-loop-part-init t c = λ kept. (kept, refl)

pub add_summands-loop-part-preserved : goal.add_summands-loop-part-preserved
add_summands-loop-part-preserved t c =
    let it = c.part-item.result in
    let ps = c.args.parts.now in
    let i = c.loop-part.part-index in
    one_part it.minus (plain_expr it.part) (plain_sum_parts (drop (i + 1) ps)) (plain_sum_parts (drop i ps)) (plain_sum_parts (ps)) c.args.pieces.now c.loop-part.pieces c.add.new.self c.add_marks.new.pieces (sum_at ps i it c.loop-part-test.true c.part-item.is) c.add.ensures c.add_marks.ensures c.loop-part.invariant

pub add_summands-returns : goal.add_summands-returns
add_summands-returns t c =
    let ps = c.args.parts.now in
    let i = c.loop-part.part-index in
    no_part (plain_sum_parts (drop i ps)) (plain_sum_parts (ps)) c.args.pieces.now c.loop-part.pieces c.add-2.new.self (at_drop_all (λ xs. plain_sum_parts xs) ps i c.loop-part-test.false) c.add-2.ensures c.loop-part.invariant

pub add_factors-loop-part-init : goal.add_factors-loop-part-init
add_factors-loop-part-init t c = λ kept. (kept, refl)

pub add_factors-loop-part-preserved : goal.add_factors-loop-part-preserved
add_factors-loop-part-preserved t c =
    let it = c.part-item.result in
    let ps = c.args.parts.now in
    let i = c.loop-part.part-index in
    one_part it.remainder (plain_expr it.part) (plain_prod_parts (drop (i + 1) ps)) (plain_prod_parts (drop i ps)) (plain_prod_parts (ps)) c.args.pieces.now c.loop-part.pieces c.add.new.self c.add_marks.new.pieces (product_at ps i it c.loop-part-test.true c.part-item.is) c.add.ensures c.add_marks.ensures c.loop-part.invariant

pub add_factors-returns : goal.add_factors-returns
add_factors-returns t c =
    let ps = c.args.parts.now in
    let i = c.loop-part.part-index in
    no_part (plain_prod_parts (drop i ps)) (plain_prod_parts (ps)) c.args.pieces.now c.loop-part.pieces c.add-2.new.self (at_drop_all (λ xs. plain_prod_parts xs) ps i c.loop-part-test.false) c.add-2.ensures c.loop-part.invariant

pub add_marks-returns-in-Sum : goal.add_marks-returns-in-Sum
add_marks-returns-in-Sum t c = all_added (plain_expr c.args.expr.now) c.args.pieces.now c.add.new.self c.add_summands.new.pieces _ (first_added c.first_mark.result (first_mark (plain_expr c.args.expr.now)) c.args.pieces.now c.add.new.self c.first_mark.ensures c.add.ensures) (ap (λ ps. marks_of_parts (plain_sum_parts ps)) c.deref-in-Sum.ensures.value ∙ sym (ap later_marks (ap (λ n. plain_node n c.args.expr.now.place) c.in-Sum.is ∙ plain_sum_of c.args.expr.now.place c.in-Sum.parts))) c.add_summands.ensures

pub add_marks-returns-in-Prod : goal.add_marks-returns-in-Prod
add_marks-returns-in-Prod t c = all_added (plain_expr c.args.expr.now) c.args.pieces.now c.add.new.self c.add_factors.new.pieces _ (first_added c.first_mark.result (first_mark (plain_expr c.args.expr.now)) c.args.pieces.now c.add.new.self c.first_mark.ensures c.add.ensures) (ap (λ ps. marks_of_parts (plain_prod_parts ps)) c.deref-in-Prod.ensures.value ∙ sym (ap later_marks (ap (λ n. plain_node n c.args.expr.now.place) c.in-Prod.is ∙ plain_product_of c.args.expr.now.place c.in-Prod.parts))) c.add_factors.ensures

pub add_marks-returns-in-Or : goal.add_marks-returns-in-Or
add_marks-returns-in-Or t c = all_added (plain_expr c.args.expr.now) c.args.pieces.now c.add.new.self c.add_operands.new.pieces _ (first_added c.first_mark.result (first_mark (plain_expr c.args.expr.now)) c.args.pieces.now c.add.new.self c.first_mark.ensures c.add.ensures) (ap (λ es. marks_of_parts (unmarked (map plain_expr es))) c.deref-in-Or.ensures.value ∙ sym (operands_behind c.args.expr.now.node c.args.expr.now.place c.in-Or.parts c.in-Or.is)) c.add_operands.ensures

pub add_marks-returns-in-Field : goal.add_marks-returns-in-Field
add_marks-returns-in-Field t c = alone_added (plain_expr c.args.expr.now) c.args.pieces.now c.add.new.self (none_behind c.args.expr.now.node c.args.expr.now.place c.in-Field.is) (first_added c.first_mark.result (first_mark (plain_expr c.args.expr.now)) c.args.pieces.now c.add.new.self c.first_mark.ensures c.add.ensures)

pub add_marks-returns-in-Not : goal.add_marks-returns-in-Not
add_marks-returns-in-Not t c = all_added (plain_expr c.args.expr.now) c.args.pieces.now c.add.new.self c.add_marks-in-Not.new.pieces _ (first_added c.first_mark.result (first_mark (plain_expr c.args.expr.now)) c.args.pieces.now c.add.new.self c.first_mark.ensures c.add.ensures) (ap (λ e. marks_of (plain_expr e)) c.deref-in-Not.ensures ∙ sym (part_behind c.args.expr.now.node c.args.expr.now.place c.in-Not.part c.in-Not.is)) c.add_marks-in-Not.ensures

pub add_marks-returns-in-Compare : goal.add_marks-returns-in-Compare
add_marks-returns-in-Compare t c = all_added (plain_expr c.args.expr.now) c.args.pieces.now c.add.new.self c.add_marks-in-Compare.new.pieces _ (first_added c.first_mark.result (first_mark (plain_expr c.args.expr.now)) c.args.pieces.now c.add.new.self c.first_mark.ensures c.add.ensures) ((λ i. marks_of (plain_expr (c.deref.ensures i)) ++ marks_of (plain_expr (c.deref-in-Compare.ensures i))) ∙ sym (ap later_marks (ap (λ n. plain_node n c.args.expr.now.place) c.in-Compare.is))) (adds_more _ _ c.add.new.self c.add_marks.new.pieces c.add_marks-in-Compare.new.pieces c.add_marks.ensures c.add_marks-in-Compare.ensures)
