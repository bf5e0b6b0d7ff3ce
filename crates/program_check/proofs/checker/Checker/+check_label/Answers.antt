use Rattle.std.proofs.Common.{◌≡◌, ◌+◌, false, drop, refl, sym, ap, ap₂, ◌∙◌, ◌||◌, Some, subst, arith}
use Rattle.std.proofs.Math.IntN.{pos}
use Rattle.std.specs.Option.{option_map}
use Rattle.std.proofs.lemmas.List.{drop_all}
use Rattle.model_tree.specs.Signature.{wholes, truths}
use Rattle.model_form.specs.Sums.{sum_form, number_form}
use Rattle.model_grammar.specs.declared.Chain.TheVariants.{Disjunction, Conjunction, Sum, Product}
use Rattle.model_grammar.specs.Syntax as plain
use Rattle.fast_syntax.specs.declared.expressions.Node.{Node}
use Rattle.fast_syntax.specs.Plain.{plain_node, plain_expr}
use Rattle.fast_syntax.specs.Slices.{plain_operands, plain_sum_parts, plain_prod_parts}
use Rattle.fast_syntax.proofs.Appending.{drop_at}
use Rattle.fast_syntax.proofs.Rows.{plain_or, plain_and, plain_sum_of, plain_product_of}
use Rattle.model_checks.specs.Forms.{has_field, kept, form_behind}
use Rattle.model_checks.specs.Labels.{label_failures, operands_failures, steps_failures}
use Rattle.fast_tree.specs.Signatures.{plain_sort}
use Rattle.program_check.specs.Known.{plain_scope, plain_added, next_form, step_failures, step_form, IsKnown}
use Rattle.program_check.specs.Notes.{HasMemory, Notes}
use Rattle.program_check.proofs.Noting.{next, same, nothing, and_none, left_by}
use Rattle.program_check.proofs.FormsMade.{taken}
use Rattle.program_check.proofs.Chains.{sorted_more, sorted_done, has_more, has_done, added_more, added_done, steps_more, steps_done, form_more, form_done}
use Rattle.fast_fault.specs.declared.code.Code.TheVariants.{WrongSort}
use Rattle.model_checks.specs.Failures.{fails_if}
use Rattle.fast_tree.specs.declared.signature.Sort.TheVariants as sorts
use Rattle.program_check.specs.declared.labels.Known.{Known}
use Rattle.program_check.specs.declared.labels.Side.{Side}
use Rattle.program_check.proofs.Labelled.{other_sort, side_at, truth_known, minus_known, minus_noted, sum_noted, compare_noted, step_noted, or_known, and_known, truths_known}
use Rattle.program_check.proofs.checker.Checker.+check_label.Goals as goal

pub check_sorted-returns-clause-noted : goal.check_sorted-returns-clause-noted
check_sorted-returns-clause-noted t c h =
    let last = c.note_if.ensures h in
    let known = c.check_label-known.ensures.known last.had in
    let other = same (ap (λ b. fails_if b WrongSort c.args.e.now.place) c.is_other_sort.ensures) last in
    next (c.check_label-known.ensures.noted last.had) (same (other_sort c.args.scope.now (plain_sort c.args.sort) c.args.e.now c.check_label-known.result known) other)

pub check_sorted-returns-clause-known : goal.check_sorted-returns-clause-known
check_sorted-returns-clause-known t c h = c.check_label-known.ensures.known (c.note_if.ensures h).had

pub check_truths-parts-preserved : goal.check_truths-parts-preserved
check_truths-parts-preserved t c =
    let s = plain_scope c.args.scope.now in
    let items = c.args.parts.now in
    let i = c.parts.part-index in
    let x = c.part-item.result in
    let one = c.check_sorted.ensures.noted in
    let split = ap plain_operands (drop_at items i x c.parts-test.true c.part-item.is) in
    record {
      noted = λ h. sorted_more s truths (plain_expr x) false (plain_operands (drop i items)) (plain_operands (drop (i + 1) items)) _ _ _ _ split (one h) (c.parts.invariant.noted (one h).had);
      has = λ h. has_more s (plain_expr x) false (plain_operands (drop i items)) (plain_operands (drop (i + 1) items)) _ _ _ _ split (ap (λ (y : Side). y.has_field) c.into_side-truth.ensures ∙ (c.check_sorted.ensures.known h).has) refl (c.parts.invariant.has (one h).had);
    }

pub check_truths-returns-clause-noted : goal.check_truths-returns-clause-noted
check_truths-returns-clause-noted t c h =
    let items = c.args.parts.now in
    sorted_done (plain_scope c.args.scope.now) truths (plain_operands (drop c.parts.part-index items)) _ _ _ (ap plain_operands (drop_all c.parts.part-index items c.parts-test.false)) (c.parts.invariant.noted h)

pub check_truths-returns-clause-known : goal.check_truths-returns-clause-known
check_truths-returns-clause-known t c h =
    let items = c.args.parts.now in
    truths_known c.args.scope.now (plain_operands items) c.formless.result c.parts.has_field c.formless.ensures
    (has_done (plain_scope c.args.scope.now) (plain_operands (drop c.parts.part-index items)) c.parts.has_field _ (ap plain_operands (drop_all c.parts.part-index items c.parts-test.false)) (c.parts.invariant.has h))

pub check_sum-parts-preserved : goal.check_sum-parts-preserved
check_sum-parts-preserved t c =
    let s = plain_scope c.args.scope.now in
    let items = c.args.parts.now in
    let i = c.parts.part-index in
    let x = c.part-item.result in
    let none = c.with_part-added.ensures.noted in
    let one = c.check_sorted-known.ensures.noted in
    let known = c.check_sorted-known.ensures.known in
    let split = ap plain_sum_parts (drop_at items i x c.parts-test.true c.part-item.is) in
    record {
      noted = λ h. sorted_more s wholes (plain_expr x.part) x.minus (plain_sum_parts (drop i items)) (plain_sum_parts (drop (i + 1) items)) _ _ _ _ split (and_none (one (none h).had) (none h)) (c.parts.invariant.noted (one (none h).had).had);
      has = λ h. has_more s (plain_expr x.part) x.minus (plain_sum_parts (drop i items)) (plain_sum_parts (drop (i + 1) items)) _ _ _ _ split (known (none h).had).has refl (c.parts.invariant.has (one (none h).had).had);
      added = λ h. added_more s (plain_expr x.part) x.minus (plain_sum_parts (drop i items)) (plain_sum_parts (drop (i + 1) items)) _ _ _ _ split (known (none h).had).form (c.with_part-added.ensures.added h) (c.parts.invariant.added (one (none h).had).had);
    }

pub check_sum-returns-clause-noted : goal.check_sum-returns-clause-noted
check_sum-returns-clause-noted t c h =
    let s = plain_scope c.args.scope.now in
    let items = c.args.parts.now in
    let none = ap plain_sum_parts (drop_all c.parts.part-index items c.parts-test.false) in
    let last = c.add_up-form.ensures.noted h in
    sum_noted s (plain_sum_parts items) c.args.place (plain_added c.parts.added) _ _ _
    (added_done s (plain_sum_parts (drop c.parts.part-index items)) (plain_added c.parts.added) _ none (c.parts.invariant.added last.had))
    (sorted_done s wholes (plain_sum_parts (drop c.parts.part-index items)) (operands_failures s wholes (plain_sum_parts items)) _ _ none (c.parts.invariant.noted last.had))
    last

pub check_sum-returns-clause-known : goal.check_sum-returns-clause-known
check_sum-returns-clause-known t c h =
    let s = plain_scope c.args.scope.now in
    let items = c.args.parts.now in
    let rest = plain_sum_parts (drop c.parts.part-index items) in
    let none = ap plain_sum_parts (drop_all c.parts.part-index items c.parts-test.false) in
    let last = c.add_up-form.ensures.noted h in
    record {
      sort = refl;
      has = has_done s rest c.parts.has_field _ none (c.parts.invariant.has last.had);
      form = c.add_up-form.ensures.form h ∙ ap (λ ps. kept (option_map sum_form ps)) (added_done s rest (plain_added c.parts.added) _ none (c.parts.invariant.added last.had));
    }

pub check_product-parts-init : goal.check_product-parts-init
check_product-parts-init t c =
    let s = plain_scope c.args.scope.now in
    let all = plain_prod_parts c.args.parts.now in
    let is : HasMemory c.take_form.new.self → c.take_form.result ≡ Some (number_form (pos 1)) = λ h. taken c.number-one.result c.take_form.result _ (c.take_form.ensures.made h) c.number-one.ensures in
    record {
      sort = refl;
      noted = λ h. left_by _ (ap (λ f. steps_failures s c.args.place false f all) (sym (is h))) (c.take_form.ensures.noted h);
      has = λ h. refl;
      form = λ h. ap (λ f. form_behind s false f all) (is h);
    }

pub check_product-parts-preserved : goal.check_product-parts-preserved
check_product-parts-preserved t c =
    let s = plain_scope c.args.scope.now in
    let items = c.args.parts.now in
    let i = c.parts.part-index in
    let x = c.part-item.result in
    let next = c.check_next-form.ensures in
    let known = c.check_sorted-known.ensures in
    let has = c.parts.before.has_field in
    let form = c.parts.before.form in
    let split = ap plain_prod_parts (drop_at items i x c.parts-test.true c.part-item.is) in
    let step : Notes c.parts.self c.check_next-form.new.self (step_failures s c.args.place has form x.remainder (plain_expr x.part)) = λ h.
    let last = next.noted h in
    let k = known.known last.had in
    step_noted s c.args.place has form x.remainder (plain_expr x.part) c.check_sorted-known.result.has_field c.check_sorted-known.result.form _ _ _ k.has k.form (known.noted last.had) last in
    let has_is : HasMemory c.check_next-form.new.self → (has || c.check_sorted-known.result.has_field) ≡ (has || has_field s (plain_expr x.part)) = λ h. ap (λ b. has || b) (known.known (next.noted h).had).has in
    let form_is : HasMemory c.check_next-form.new.self → c.check_next-form.result ≡ step_form s has form x.remainder (plain_expr x.part) = λ h.
    let k = known.known (next.noted h).had in
    next.form h ∙ ap₂ (λ h f. next_form has form x.remainder h f (plain_expr x.part)) k.has k.form in
    record {
      sort = refl;
      noted = λ h. steps_more s c.args.place (plain_expr x.part) x.remainder (plain_prod_parts (drop i items)) (plain_prod_parts (drop (i + 1) items)) _ _ _ _ _ _ _ _ split (has_is h) (form_is h) (step h) (c.parts.invariant.noted (step h).had);
      has = λ h. has_more s (plain_expr x.part) x.remainder (plain_prod_parts (drop i items)) (plain_prod_parts (drop (i + 1) items)) _ (has_field s (plain_expr x.part)) _ _ split refl (has_is h) (c.parts.invariant.has (step h).had);
      form = λ h. form_more s (plain_expr x.part) x.remainder (plain_prod_parts (drop i items)) (plain_prod_parts (drop (i + 1) items)) _ _ _ _ _ split (has_is h) (form_is h) (c.parts.invariant.form (step h).had);
    }

pub check_product-returns-clause-known : goal.check_product-returns-clause-known
check_product-returns-clause-known t c h =
    let s = plain_scope c.args.scope.now in
    let rest = plain_prod_parts (drop c.parts.part-index c.args.parts.now) in
    let none = ap plain_prod_parts (drop_all c.parts.part-index c.args.parts.now c.parts-test.false) in
    record {
      sort = c.parts.invariant.sort;
      has = has_done s rest c.parts.before.has_field _ none (c.parts.invariant.has h);
      form = form_done s rest c.parts.before.has_field c.parts.before.form _ none (c.parts.invariant.form h);
    }

pub check_product-returns-clause-noted : goal.check_product-returns-clause-noted
check_product-returns-clause-noted t c h =
    let items = c.args.parts.now in
    steps_done (plain_scope c.args.scope.now) c.args.place (plain_prod_parts (drop c.parts.part-index items)) c.parts.before.has_field c.parts.before.form _ _ _
    (ap plain_prod_parts (drop_all c.parts.part-index items c.parts-test.false)) (c.parts.invariant.noted h)

pub check_label-returns-in-Field-clause-noted : goal.check_label-returns-in-Field-clause-noted
check_label-returns-in-Field-clause-noted t c h = same (ap (λ n. label_failures (plain_scope c.args.scope.now) (plain_node n c.args.e.now.place)) (sym c.in-Field.is)) (c.check_field.ensures.noted h)

pub check_label-returns-in-Field-clause-known : goal.check_label-returns-in-Field-clause-known
check_label-returns-in-Field-clause-known t c h = subst (λ (n : Node). IsKnown c.args.scope.now (plain_node n c.args.e.now.place) c.check_field.result) (sym c.in-Field.is) (c.check_field.ensures.known h)

pub check_label-returns-in-Str-clause-noted : goal.check_label-returns-in-Str-clause-noted
check_label-returns-in-Str-clause-noted t c h = same (ap (λ n. label_failures (plain_scope c.args.scope.now) (plain_node n c.args.e.now.place)) (sym c.in-Str.is)) (c.check_text.ensures.noted h)

pub check_label-returns-in-Truth-clause-noted : goal.check_label-returns-in-Truth-clause-noted
check_label-returns-in-Truth-clause-noted t c h = same (ap (λ n. label_failures (plain_scope c.args.scope.now) (plain_node n c.args.e.now.place)) (sym c.in-Truth.is)) (nothing c.args.self.now h)

pub check_label-returns-in-Compare-clause-noted : goal.check_label-returns-in-Compare-clause-noted
check_label-returns-in-Compare-clause-noted t c h =
    let s = plain_scope c.args.scope.now in
    let place = c.args.e.now.place in
    let last = c.check_sides.ensures h in
    let two = c.check_label-in-Compare.ensures.noted last.had in
    let one = c.check_label.ensures.noted two.had in
    let left = side_at c.args.scope.now c.in-Compare.left.value _ _ c.check_label.result c.into_side-of_left.result c.deref-in-Compare.ensures c.deref-in-Compare-2.ensures c.into_side-of_left.ensures (c.check_label.ensures.known two.had) in
    let right = side_at c.args.scope.now c.in-Compare.right.value _ _ c.check_label-in-Compare.result c.into_side-of_right.result c.deref-in-Compare-3.ensures c.deref-in-Compare-4.ensures c.into_side-of_right.ensures (c.check_label-in-Compare.ensures.known last.had) in
    same (ap (λ n. label_failures s (plain_node n place)) (sym c.in-Compare.is))
    (compare_noted s c.in-Compare.rel place (plain_expr c.in-Compare.left.value) _ (plain_expr c.in-Compare.right.value) _ _ _ _ _ _ _
    (ap plain_expr c.deref-in-Compare.ensures) (ap plain_expr c.deref-in-Compare-3.ensures) left right one two last)

pub check_label-returns-in-Compare-clause-known : goal.check_label-returns-in-Compare-clause-known
check_label-returns-in-Compare-clause-known t c h =
    let last = c.check_sides.ensures h in
    let two = c.check_label-in-Compare.ensures.noted last.had in
    let left = side_at c.args.scope.now c.in-Compare.left.value _ _ c.check_label.result c.into_side-of_left.result c.deref-in-Compare.ensures c.deref-in-Compare-2.ensures c.into_side-of_left.ensures (c.check_label.ensures.known two.had) in
    let right = side_at c.args.scope.now c.in-Compare.right.value _ _ c.check_label-in-Compare.result c.into_side-of_right.result c.deref-in-Compare-3.ensures c.deref-in-Compare-4.ensures c.into_side-of_right.ensures (c.check_label-in-Compare.ensures.known last.had) in
    let has = ap₂ (λ a b. a || b) left.has right.has in
    let place = c.args.e.now.place in
    subst (λ (n : Node). IsKnown c.args.scope.now (plain_node n place) c.formless-in-Compare.result) (sym c.in-Compare.is)
    (truth_known c.args.scope.now (plain.compare place c.in-Compare.rel (plain_expr c.in-Compare.left.value) (plain_expr c.in-Compare.right.value)) c.formless-in-Compare.result _ c.formless-in-Compare.ensures refl has refl)

pub check_label-returns-in-Not-clause-noted : goal.check_label-returns-in-Not-clause-noted
check_label-returns-in-Not-clause-noted t c h =
    let s = plain_scope c.args.scope.now in
    let place = c.args.e.now.place in
    same (ap (λ x. label_failures s (plain.negation place (plain_expr x))) c.deref.ensures ∙ sym (ap (λ n. label_failures s (plain_node n place)) c.in-Not.is)) (c.check_sorted.ensures.noted h)

pub check_label-returns-in-Not-clause-known : goal.check_label-returns-in-Not-clause-known
check_label-returns-in-Not-clause-known t c h =
    let place = c.args.e.now.place in
    let is = ap (λ x. plain.negation place (plain_expr x)) c.deref.ensures ∙ sym (ap (λ n. plain_node n place) c.in-Not.is) in
    let has = ap (λ (x : Side). x.has_field) c.into_side-truth.ensures ∙ (c.check_sorted.ensures.known h).has in
    subst (λ (e : plain.Expr). IsKnown c.args.scope.now e c.formless-in-Not.result) is
    (truth_known c.args.scope.now (plain.negation place (plain_expr c.deref.result.now)) c.formless-in-Not.result c.into_side-truth.result.has_field c.formless-in-Not.ensures refl has refl)

pub check_label-returns-in-Minus-clause-noted : goal.check_label-returns-in-Minus-clause-noted
check_label-returns-in-Minus-clause-noted t c h =
    let s = plain_scope c.args.scope.now in
    let place = c.args.e.now.place in
    let last = c.negate-form.ensures.noted h in
    same (ap (λ x. label_failures s (plain.minus place (plain_expr x))) c.deref-in-Minus.ensures ∙ sym (ap (λ n. label_failures s (plain_node n place)) c.in-Minus.is))
    (minus_noted s (plain_expr c.deref-in-Minus.result.now) place c.check_sorted-known.result.form _ _ _ (c.check_sorted-known.ensures.known last.had).form (c.check_sorted-known.ensures.noted last.had) last)

pub check_label-returns-in-Minus-clause-known : goal.check_label-returns-in-Minus-clause-known
check_label-returns-in-Minus-clause-known t c h =
    let place = c.args.e.now.place in
    let is = ap (λ x. plain.minus place (plain_expr x)) c.deref-in-Minus.ensures ∙ sym (ap (λ n. plain_node n place) c.in-Minus.is) in
    let known : Known = record { sort = Some sorts.Int; has_field = c.check_sorted-known.result.has_field; form = c.negate-form.result } in
    subst (λ (e : plain.Expr). IsKnown c.args.scope.now e known) is
    (minus_known c.args.scope.now (plain_expr c.deref-in-Minus.result.now) place c.check_sorted-known.result c.negate-form.result (c.check_sorted-known.ensures.known (c.negate-form.ensures.noted h).had) (c.negate-form.ensures.form h))

pub check_label-returns-in-Or-clause-noted : goal.check_label-returns-in-Or-clause-noted
check_label-returns-in-Or-clause-noted t c =
    let place = c.args.e.now.place in
    let is = ap (λ xs. plain.chain Disjunction place (plain_operands xs)) c.deref-in-Or.ensures.value ∙ sym (ap (λ n. plain_node n place) c.in-Or.is ∙ plain_or place c.in-Or.parts) in
    subst (λ (e : plain.Expr). Notes c.args.self.now c.check_truths.new.self (label_failures (plain_scope c.args.scope.now) e)) is c.check_truths.ensures.noted

pub check_label-returns-in-Or-clause-known : goal.check_label-returns-in-Or-clause-known
check_label-returns-in-Or-clause-known t c h =
    let place = c.args.e.now.place in
    let is = ap (λ xs. plain.chain Disjunction place (plain_operands xs)) c.deref-in-Or.ensures.value ∙ sym (ap (λ n. plain_node n place) c.in-Or.is ∙ plain_or place c.in-Or.parts) in
    subst (λ (e : plain.Expr). IsKnown c.args.scope.now e c.check_truths.result) is (or_known c.args.scope.now place (plain_operands c.deref-in-Or.result.now) c.check_truths.result (c.check_truths.ensures.known h))

pub check_label-returns-in-And-clause-noted : goal.check_label-returns-in-And-clause-noted
check_label-returns-in-And-clause-noted t c =
    let place = c.args.e.now.place in
    let is = ap (λ xs. plain.chain Conjunction place (plain_operands xs)) c.deref-in-And.ensures.value ∙ sym (ap (λ n. plain_node n place) c.in-And.is ∙ plain_and place c.in-And.parts) in
    subst (λ (e : plain.Expr). Notes c.args.self.now c.check_truths-in-And.new.self (label_failures (plain_scope c.args.scope.now) e)) is c.check_truths-in-And.ensures.noted

pub check_label-returns-in-And-clause-known : goal.check_label-returns-in-And-clause-known
check_label-returns-in-And-clause-known t c h =
    let place = c.args.e.now.place in
    let is = ap (λ xs. plain.chain Conjunction place (plain_operands xs)) c.deref-in-And.ensures.value ∙ sym (ap (λ n. plain_node n place) c.in-And.is ∙ plain_and place c.in-And.parts) in
    subst (λ (e : plain.Expr). IsKnown c.args.scope.now e c.check_truths-in-And.result) is (and_known c.args.scope.now place (plain_operands c.deref-in-And.result.now) c.check_truths-in-And.result (c.check_truths-in-And.ensures.known h))

pub check_label-returns-in-Sum-clause-noted : goal.check_label-returns-in-Sum-clause-noted
check_label-returns-in-Sum-clause-noted t c =
    let place = c.args.e.now.place in
    let is = ap (λ xs. plain.chain Sum place (plain_sum_parts xs)) c.deref-in-Sum.ensures.value ∙ sym (ap (λ n. plain_node n place) c.in-Sum.is ∙ plain_sum_of place c.in-Sum.parts) in
    subst (λ (e : plain.Expr). Notes c.args.self.now c.check_sum.new.self (label_failures (plain_scope c.args.scope.now) e)) is c.check_sum.ensures.noted

pub check_label-returns-in-Sum-clause-known : goal.check_label-returns-in-Sum-clause-known
check_label-returns-in-Sum-clause-known t c h =
    let place = c.args.e.now.place in
    let is = ap (λ xs. plain.chain Sum place (plain_sum_parts xs)) c.deref-in-Sum.ensures.value ∙ sym (ap (λ n. plain_node n place) c.in-Sum.is ∙ plain_sum_of place c.in-Sum.parts) in
    subst (λ (e : plain.Expr). IsKnown c.args.scope.now e c.check_sum.result) is (c.check_sum.ensures.known h)

pub check_label-returns-in-Prod-clause-noted : goal.check_label-returns-in-Prod-clause-noted
check_label-returns-in-Prod-clause-noted t c =
    let place = c.args.e.now.place in
    let is = ap (λ xs. plain.chain Product place (plain_prod_parts xs)) c.deref-in-Prod.ensures.value ∙ sym (ap (λ n. plain_node n place) c.in-Prod.is ∙ plain_product_of place c.in-Prod.parts) in
    subst (λ (e : plain.Expr). Notes c.args.self.now c.check_product.new.self (label_failures (plain_scope c.args.scope.now) e)) is c.check_product.ensures.noted

pub check_label-returns-in-Prod-clause-known : goal.check_label-returns-in-Prod-clause-known
check_label-returns-in-Prod-clause-known t c h =
    let place = c.args.e.now.place in
    let is = ap (λ xs. plain.chain Product place (plain_prod_parts xs)) c.deref-in-Prod.ensures.value ∙ sym (ap (λ n. plain_node n place) c.in-Prod.is ∙ plain_product_of place c.in-Prod.parts) in
    subst (λ (e : plain.Expr). IsKnown c.args.scope.now e c.check_product.result) is (c.check_product.ensures.known h)

pub check_sorted-check_label-known-requires : goal.check_sorted-check_label-known-requires
check_sorted-check_label-known-requires t c = (omega (arith, c.decreases), tt)
