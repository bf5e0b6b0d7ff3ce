use Rattle.std.proofs.lemmas.List.{at_drop_all}
use Rattle.std.proofs.Common.{append-nil, ◌≡◌, ◌+◌, ◌++◌, rules, ◌∷◌, [], drop, ap, sym, subst, ◌∙◌}
use Rattle.std.proofs.Math.IntN.{ℤ, pos, negsuc}
use Rattle.std.proofs.Common.{MatchResult, to_z, of_z}
use Rattle.std.specs.Prelude.{FitsSigned}
use Rattle.std.specs.Int.{w128}
use Rattle.std.proofs.lemmas.Int.{to_z-of_z}
use Rattle.model_grammar.specs.declared.Chain.TheVariants.{Sum, Product}
use Rattle.model_grammar.specs.Syntax.{chain}
use Rattle.lin_form.specs.Stops.{StopsAt}
use Rattle.std.proofs.lemmas.Result.{err_from_is_err_and}
use Rattle.model_form.specs.Form.{Form}
use Rattle.model_form.specs.Ranges.{IsOutside}
use Rattle.model_form.specs.Sums.{number_form, product_form, sum_form}
use Rattle.model_guard.specs.Forms.{step, form_of, added, multiplied, steps, forms_in, forms_in_all, HasOutside}
use Rattle.lin_form.specs.Gathered.{plain_parts}
use Rattle.fast_tree.specs.Signatures.{plain_signature}
use Rattle.fast_syntax.specs.Plain.{plain_expr, plain_node}
use Rattle.fast_syntax.specs.Slices.{plain_sum_parts, plain_prod_parts}
use Rattle.fast_syntax.proofs.Rows.{plain_sum_of, plain_product_of}
use Rattle.record_label.proofs.FormFacts.{outside_left, outside_right, outside_first, passed, stopped, sum_at, product_at, added_more, in_first, in_rest, multiplied_more, step_first, step_rest}
use Rattle.record_label.proofs.Follows.{unless_memory, follows, stops_after, taken}
use Rattle.record_label.proofs.forms.+forms.Goals as goal

pub added-returns-in_err-add_part : goal.added-returns-in_err-add_part
added-returns-in_err-add_part t c =
    let fields = (plain_signature c.args.signature.now).fields in
    let it = c.part-item.result in
    let i = c.loop-part.part-index in
    let ps = c.args.parts.now in
    let p = err_from_is_err_and c.from_residual.result c.from_residual.ensures.1 in
    let at = sum_at ps i it c.loop-part-test.true c.part-item.is in
    let out : (n : ℤ) → HasOutside (forms_in fields (plain_expr it.part)) n → HasOutside (forms_in_all fields (plain_sum_parts ps)) n = λ n o. c.loop-part.invariant.1 n (in_first fields it.minus (plain_expr it.part) (plain_sum_parts (drop (i + 1) ps)) (plain_sum_parts (drop i ps)) n at o) in
    rw (p.1, p.2) (stops_after c.form_of-form.result c.in_err-add_part.field-0.0 (λ f _. c.add_part.new.parts.items ≡ c.loop-part.made.items ++ record { minus = it.minus; form = f } ∷ []) (λ _ _. ⊥) (λ f. f ≡ form_of fields (plain_expr it.part)) (HasOutside (forms_in fields (plain_expr it.part))) (HasOutside (forms_in_all fields (plain_sum_parts ps))) out (λ f is n o. absurd o) c.form_of-form.ensures c.in_err-add_part.ensures)

pub added-loop-part-preserved : goal.added-loop-part-preserved
added-loop-part-preserved t c =
    let fields = (plain_signature c.args.signature.now).fields in
    let it = c.part-item.result in
    let i = c.loop-part.part-index in
    let ps = c.args.parts.now in
    let at = sum_at ps i it c.loop-part-test.true c.part-item.is in
    let own = taken c.form_of-form.result tt (λ f _. c.add_part.new.parts.items ≡ c.loop-part.made.items ++ record { minus = it.minus; form = f } ∷ []) (λ _ _. ⊥) (λ f. f ≡ form_of fields (plain_expr it.part)) (HasOutside (forms_in fields (plain_expr it.part))) c.form_of-form.ensures c.in_ok-add_part.ensures in (
      added_more fields c.loop-part.made.items c.add_part.new.parts.items it.minus own.0 (plain_expr it.part) (plain_sum_parts (drop (i + 1) ps)) (plain_sum_parts (drop i ps)) (plain_sum_parts ps) own.2 own.1 at c.loop-part.invariant.0,
      λ n o. c.loop-part.invariant.1 n (in_rest fields it.minus (plain_expr it.part) (plain_sum_parts (drop (i + 1) ps)) (plain_sum_parts (drop i ps)) n at o),
    )

pub form_of-returns-in-Num : goal.form_of-returns-in-Num
form_of-returns-in-Num t c =
    let v = c.in-Num.value in
    let fits : FitsSigned w128 v = search rules in
    let held = to_z-of_z w128 v fits in
    rw c.in-Num.is (passed c.number.result (λ f. f ≡ number_form (to_z w128 (of_z w128 v))) (λ f. f ≡ number_form v) (IsOutside (number_form (to_z w128 (of_z w128 v)))) (HasOutside (number_form v ∷ []))
    (λ f is. is ∙ ap number_form held) (λ n o. outside_first (number_form v) [] n (subst (λ z. IsOutside (number_form z) n) held o)) c.number.ensures)

pub form_of-returns-in-Minus : goal.form_of-returns-in-Minus
form_of-returns-in-Minus t c =
    let fields = (plain_signature c.args.signature.now).fields in
    let e = plain_expr c.in-Minus.part.value in
    let minus = product_form (negsuc 0) (form_of fields e) in
    rw c.in-Minus.is (follows c.form_of.result c.negated.result (λ f form. form ≡ product_form (negsuc 0) f) (λ f. IsOutside (product_form (negsuc 0) f)) (λ f. f ≡ form_of fields e) (λ form. form ≡ minus) (HasOutside (forms_in fields e)) (HasOutside (forms_in fields e ++ minus ∷ []))
    (λ f is form made. made ∙ ap (product_form (negsuc 0)) is) (outside_left (forms_in fields e) (minus ∷ [])) (λ f is n o. outside_right (forms_in fields e) (minus ∷ []) n (outside_first minus [] n (subst (λ g. IsOutside (product_form (negsuc 0) g) n) is o)))
    (rw c.deref.ensures at c.form_of.ensures) c.negated.ensures)

pub form_of-returns-in-Sum : goal.form_of-returns-in-Sum
form_of-returns-in-Sum t c =
    let fields = (plain_signature c.args.signature.now).fields in
    let place = c.args.expr.now.place in
    let parts = plain_sum_parts c.deref-in-Sum.result.now in
    let e = chain Sum place parts in
    let whole : plain_expr c.args.expr.now ≡ e = ap (λ n. plain_node n place) c.in-Sum.is ∙ plain_sum_of place c.in-Sum.parts ∙ ap (λ ps. chain Sum place (plain_sum_parts ps)) (sym c.deref-in-Sum.ensures.value) in
    subst (λ d. MatchResult c.sum.result (λ f. f ≡ form_of fields d) (λ stop. StopsAt (HasOutside (forms_in fields d)) stop)) (sym whole)
    (follows c.added.result c.sum.result (λ made form. form ≡ sum_form (plain_parts made.items)) (λ made. IsOutside (sum_form (plain_parts made.items))) (λ made. plain_parts made.items ≡ added fields parts) (λ form. form ≡ form_of fields e) (HasOutside (forms_in_all fields parts)) (HasOutside (forms_in fields e))
    (λ made is form whole. whole ∙ ap sum_form is) (outside_left (forms_in_all fields parts) (form_of fields e ∷ [])) (λ made is n o. outside_right (forms_in_all fields parts) (form_of fields e ∷ []) n (outside_first (form_of fields e) [] n (subst (λ f. IsOutside f n) (ap sum_form is) o)))
    c.added.ensures c.sum.ensures)

pub form_of-returns-in-Prod : goal.form_of-returns-in-Prod
form_of-returns-in-Prod t c =
    let fields = (plain_signature c.args.signature.now).fields in
    let place = c.args.expr.now.place in
    let parts = c.in-Prod.parts in
    let whole : plain_expr c.args.expr.now ≡ chain Product place (plain_prod_parts parts.items) = ap (λ n. plain_node n place) c.in-Prod.is ∙ plain_product_of place parts in
    subst (λ d. MatchResult c.multiplied.result (λ f. f ≡ form_of fields d) (λ stop. StopsAt (HasOutside (forms_in fields d)) stop)) (sym whole) (rw c.deref-in-Prod.ensures.value at c.multiplied.ensures)

pub multiplied-returns-in_err-form-2 : goal.multiplied-returns-in_err-form-2
multiplied-returns-in_err-form-2 t c =
    let fields = (plain_signature c.args.signature.now).fields in
    let it = c.part-item.result in
    let i = c.loop-part.part-index in
    let ps = c.args.parts.now in
    let p = err_from_is_err_and c.from_residual-in_err-form-2.result c.from_residual-in_err-form-2.ensures.1 in
    let at = product_at ps i it c.loop-part-test.true c.part-item.is in
    let all = forms_in_all fields (plain_prod_parts ps) ++ steps fields (number_form (pos 1)) (plain_prod_parts ps) in
    let e = plain_expr it.part in
    let before = c.loop-part.form in
    let own : (n : ℤ) → HasOutside (forms_in fields e) n → HasOutside all n = λ n o.
    outside_left (forms_in_all fields (plain_prod_parts ps)) (steps fields (number_form (pos 1)) (plain_prod_parts ps)) n (c.loop-part.invariant.1 n (in_first fields it.remainder e (plain_prod_parts (drop (i + 1) ps)) (plain_prod_parts (drop i ps)) n at o)) in
    let out : (f : Form) → f ≡ form_of fields e → (n : ℤ) → IsOutside (step before it.remainder e f) n → HasOutside all n = λ f is n o.
    outside_right (forms_in_all fields (plain_prod_parts ps)) (steps fields (number_form (pos 1)) (plain_prod_parts ps)) n (c.loop-part.invariant.2 n (step_first fields before it.remainder e f (plain_prod_parts (drop (i + 1) ps)) (plain_prod_parts (drop i ps)) n is at o)) in
    rw (p.1, p.2) (stops_after c.form_of-own.result c.in_err-form-2.field-0.0 (λ f form. form ≡ step before it.remainder e f) (λ f. IsOutside (step before it.remainder e f)) (λ f. f ≡ form_of fields e) (HasOutside (forms_in fields e)) (HasOutside all) own out c.form_of-own.ensures c.in_err-form-2.ensures)

pub multiplied-loop-part-preserved : goal.multiplied-loop-part-preserved
multiplied-loop-part-preserved t c =
    let fields = (plain_signature c.args.signature.now).fields in
    let it = c.part-item.result in
    let e = plain_expr it.part in
    let i = c.loop-part.part-index in
    let ps = c.args.parts.now in
    let rest = plain_prod_parts (drop (i + 1) ps) in
    let at = product_at ps i it c.loop-part-test.true c.part-item.is in
    let own = taken c.form_of-own.result c.in_ok-form-2.form (λ f form. form ≡ step c.loop-part.form it.remainder e f) (λ f. IsOutside (step c.loop-part.form it.remainder e f)) (λ f. f ≡ form_of fields e) (HasOutside (forms_in fields e)) c.form_of-own.ensures c.in_ok-form-2.ensures in
    let now : c.in_ok-form-2.form ≡ step c.loop-part.form it.remainder e (form_of fields e) = own.2 ∙ ap (step c.loop-part.form it.remainder e) own.1 in (
      multiplied_more fields c.loop-part.form c.in_ok-form-2.form it.remainder e rest (plain_prod_parts (drop i ps)) (plain_prod_parts ps) now at c.loop-part.invariant.0,
      λ n o. c.loop-part.invariant.1 n (in_rest fields it.remainder e rest (plain_prod_parts (drop i ps)) n at o),
      λ n o. c.loop-part.invariant.2 n (step_rest fields c.loop-part.form c.in_ok-form-2.form it.remainder e rest (plain_prod_parts (drop i ps)) n now at o),
    )

pub multiplied-returns-in_err-form : goal.multiplied-returns-in_err-form
multiplied-returns-in_err-form t c = stopped c.from_residual.result _ _ c.from_residual.ensures.1

pub added-loop-part-init : goal.added-loop-part-init
added-loop-part-init t c = (ap (λ made. plain_parts made ++ added (plain_signature c.args.signature.now).fields (plain_sum_parts c.args.parts.now)) c.new-made.ensures.items, λ n o. o)

pub added-returns : goal.added-returns
added-returns t c =
    let made = plain_parts c.loop-part.made.items in
    sym (append-nil made) ∙ sym (at_drop_all (λ ps. made ++ added (plain_signature c.args.signature.now).fields (plain_sum_parts ps)) c.args.parts.now c.loop-part.part-index c.loop-part-test.false) ∙ c.loop-part.invariant.0

pub multiplied-loop-part-init : goal.multiplied-loop-part-init
multiplied-loop-part-init t c =
    let fields = (plain_signature c.args.signature.now).fields in
    let parts = plain_prod_parts c.args.parts.now in
    let one = c.in_ok-form.ensures {u = tt} in
    (ap (λ f. multiplied fields f parts) one, λ n o. o, λ n o. subst (λ f. HasOutside (steps fields f parts) n) one o)

pub multiplied-returns : goal.multiplied-returns
multiplied-returns t c = sym (at_drop_all (λ ps. multiplied (plain_signature c.args.signature.now).fields c.loop-part.form (plain_prod_parts ps)) c.args.parts.now c.loop-part.part-index c.loop-part-test.false) ∙ c.loop-part.invariant.0

pub form_of-returns-in-Field : goal.form_of-returns-in-Field
form_of-returns-in-Field t c =
    let fields = (plain_signature c.args.signature.now).fields in
    let whole = ap (λ n. plain_node n c.args.expr.now.place) c.in-Field.is in
    unless_memory c.field.result _ (λ f. f ≡ form_of fields (plain_expr c.args.expr.now)) (HasOutside (forms_in fields (plain_expr c.args.expr.now))) (λ f is. is ∙ sym (ap (form_of fields) whole)) c.field.ensures
