use Rattle.std.proofs.Common.{◌≡◌, ◌+◌, false, ◌∷◌, drop, refl, ap, ◌∙◌, subst, arith, rules}
use Rattle.std.proofs.lemmas.List.{drop_all}
use Rattle.model_grammar.specs.declared.Chain.TheVariants.{Disjunction, Conjunction, Sum, Product}
use Rattle.model_grammar.specs.Printed.{operands}
use Rattle.fast_syntax.specs.Adds.{Adds}
use Rattle.fast_syntax.specs.Plain.{plain_node, plain_expr}
use Rattle.fast_syntax.specs.Slices.{plain_operands, plain_sum_parts, plain_prod_parts}
use Rattle.fast_syntax.proofs.Characters.{if_ok}
use Rattle.fast_syntax.proofs.Appending.{drop_at, adds_then, adds_as, adds_compared, further_more, operands_end}
use Rattle.fast_syntax.proofs.Rows.{plain_or, plain_and, plain_sum_of, plain_product_of}
use Rattle.fast_syntax.proofs.print_expressions.+print_expression.Goals as goal

pub append_bracketed-returns : goal.append_bracketed-returns
append_bracketed-returns t c = if_ok c.word-2.result (λ x last. adds_then c.in_ok-word.ensures (adds_then c.in_ok-append_expression.ensures last)) c.word-2.ensures

pub append_expression-returns-in_ok-append_at-in-Compare : goal.append_expression-returns-in_ok-append_at-in-Compare
append_expression-returns-in_ok-append_at-in-Compare t c =
    let place = c.args.e.now.place in
    if_ok c.append_further.result (λ x last. adds_as (ap (λ n. plain_node n place) c.in-Compare.is)
    (adds_compared place c.in-Compare.rel c.rel_word.result (plain_expr c.in-Compare.left.value) (plain_expr c.in-Compare.right.value) (plain_expr c.deref-in-Compare.result.now) (plain_expr c.deref-in-Compare-2.result.now) c.args.page.now c.append_at-in-Compare.new.page c.append_further.new.page
    (ap plain_expr c.deref-in-Compare.ensures) (ap plain_expr c.deref-in-Compare-2.ensures) c.rel_word.ensures c.in_ok-append_at-in-Compare.ensures last)) c.append_further.ensures

pub append_expression-returns-in-Or : goal.append_expression-returns-in-Or
append_expression-returns-in-Or t c =
    let place = c.args.e.now.place in
    if_ok c.append_operands.result (λ x is. adds_as (ap (λ n. plain_node n place) c.in-Or.is ∙ plain_or place c.in-Or.parts) (subst (λ l. Adds c.args.page.now c.append_operands.new.page (operands Disjunction (plain_operands l))) c.deref-in-Or.ensures.value is)) c.append_operands.ensures

pub append_expression-returns-in-And : goal.append_expression-returns-in-And
append_expression-returns-in-And t c =
    let place = c.args.e.now.place in
    if_ok c.append_operands-in-And.result (λ x is. adds_as (ap (λ n. plain_node n place) c.in-And.is ∙ plain_and place c.in-And.parts) (subst (λ l. Adds c.args.page.now c.append_operands-in-And.new.page (operands Conjunction (plain_operands l))) c.deref-in-And.ensures.value is)) c.append_operands-in-And.ensures

pub append_expression-returns-in-Sum : goal.append_expression-returns-in-Sum
append_expression-returns-in-Sum t c =
    let place = c.args.e.now.place in
    if_ok c.append_sum.result (λ x is. adds_as (ap (λ n. plain_node n place) c.in-Sum.is ∙ plain_sum_of place c.in-Sum.parts) (subst (λ l. Adds c.args.page.now c.append_sum.new.page (operands Sum (plain_sum_parts l))) c.deref-in-Sum.ensures.value is)) c.append_sum.ensures

pub append_expression-returns-in-Prod : goal.append_expression-returns-in-Prod
append_expression-returns-in-Prod t c =
    let place = c.args.e.now.place in
    if_ok c.append_product.result (λ x is. adds_as (ap (λ n. plain_node n place) c.in-Prod.is ∙ plain_product_of place c.in-Prod.parts) (subst (λ l. Adds c.args.page.now c.append_product.new.page (operands Product (plain_prod_parts l))) c.deref-in-Prod.ensures.value is)) c.append_product.ensures

pub append_operands-loop-part-preserved : goal.append_operands-loop-part-preserved
append_operands-loop-part-preserved t c =
    let later = c.in-Some.later.now in
    let i = c.loop-part.part-index in
    let first = drop_at later i c.part-item.result (omega arith) c.part-item.is in
    further_more c.args.chain false c.chain_word.result c.operand-in-loop-part.result (plain_expr c.part-item.result) (plain_operands (drop (i + 1) later)) (plain_operands (drop i later)) c.loop-part.page c.append_further.new.page _
    c.chain_word.ensures c.operand-in-loop-part.ensures (ap plain_operands first) c.in_ok-append_further.ensures c.loop-part.invariant

pub append_operands-returns : goal.append_operands-returns
append_operands-returns t c =
    let later = c.in-Some.later.now in
    let all : c.args.parts.now ≡ c.in-Some.first.now ∷ later = search rules in
    operands_end c.args.chain false c.operand.result (plain_expr c.in-Some.first.now) (plain_operands (drop c.loop-part.part-index later)) (plain_operands later) (plain_operands c.args.parts.now) c.args.page.now c.append_at.new.page c.loop-part.page
    c.operand.ensures (ap plain_operands all) (ap plain_operands (drop_all c.loop-part.part-index later c.loop-part-test.false)) c.in_ok-append_at.ensures c.loop-part.invariant

pub append_sum-loop-part-preserved : goal.append_sum-loop-part-preserved
append_sum-loop-part-preserved t c =
    let later = c.in-Some.later.now in
    let i = c.loop-part.part-index in
    let first = drop_at later i c.part-item.result (omega arith) c.part-item.is in
    further_more Sum c.part-item.result.minus c.chain_word-sign.result _ (plain_expr c.part-item.result.part) (plain_sum_parts (drop (i + 1) later)) (plain_sum_parts (drop i later)) c.loop-part.page c.append_further.new.page _
    c.chain_word-sign.ensures refl (ap plain_sum_parts first) c.in_ok-append_further.ensures c.loop-part.invariant

pub append_sum-returns : goal.append_sum-returns
append_sum-returns t c =
    let later = c.in-Some.later.now in
    let all : c.args.parts.now ≡ c.in-Some.first.now ∷ later = search rules in
    operands_end Sum c.in-Some.first.now.minus _ (plain_expr c.in-Some.first.now.part) (plain_sum_parts (drop c.loop-part.part-index later)) (plain_sum_parts later) (plain_sum_parts c.args.parts.now) c.args.page.now c.append_at.new.page c.loop-part.page
    refl (ap plain_sum_parts all) (ap plain_sum_parts (drop_all c.loop-part.part-index later c.loop-part-test.false)) c.in_ok-append_at.ensures c.loop-part.invariant

pub append_product-loop-part-preserved : goal.append_product-loop-part-preserved
append_product-loop-part-preserved t c =
    let later = c.in-Some.later.now in
    let i = c.loop-part.part-index in
    let first = drop_at later i c.part-item.result (omega arith) c.part-item.is in
    further_more Product c.part-item.result.remainder c.chain_word-sign.result _ (plain_expr c.part-item.result.part) (plain_prod_parts (drop (i + 1) later)) (plain_prod_parts (drop i later)) c.loop-part.page c.append_further.new.page _
    c.chain_word-sign.ensures refl (ap plain_prod_parts first) c.in_ok-append_further.ensures c.loop-part.invariant

pub append_product-returns : goal.append_product-returns
append_product-returns t c =
    let later = c.in-Some.later.now in
    let all : c.args.parts.now ≡ c.in-Some.first.now ∷ later = search rules in
    operands_end Product c.in-Some.first.now.remainder _ (plain_expr c.in-Some.first.now.part) (plain_prod_parts (drop c.loop-part.part-index later)) (plain_prod_parts later) (plain_prod_parts c.args.parts.now) c.args.page.now c.append_at.new.page c.loop-part.page
    refl (ap plain_prod_parts all) (ap plain_prod_parts (drop_all c.loop-part.part-index later c.loop-part-test.false)) c.in_ok-append_at.ensures c.loop-part.invariant
