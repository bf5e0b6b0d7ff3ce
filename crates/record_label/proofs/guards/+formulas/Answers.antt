use Rattle.std.proofs.Common.{◌≡◌, ◌+◌, ◌++◌, ◌∷◌, [], true, false, map, drop, sym, subst, ap, ◌∙◌}
use Rattle.std.proofs.Math.IntN.{ℤ}
use Rattle.std.proofs.lemmas.Result.{err_from_is_err_and}
use Rattle.model_grammar.specs.declared.Chain.TheVariants.{Conjunction, Disjunction}
use Rattle.model_grammar.specs.Syntax.{chain}
use Rattle.model_guard.specs.Forms.{forms_in, forms_in_all, HasOutside}
use Rattle.model_tree.specs.Formula.{Formula, all_of, some_of, negation}
use Rattle.label_core.specs.Formula.{plain_formula}
use Rattle.fast_syntax.specs.Plain.{plain_expr, plain_node}
use Rattle.fast_tree.specs.Signatures.{plain_signature}
use Rattle.record_label.specs.Guards.{joined_of, formula_in, compared_in, compared_by, agreement_of}
use Rattle.std.proofs.lemmas.List.{take_all}
use Rattle.record_label.specs.Rows.{RowAtom}
use Rattle.record_label.specs.Parts.{unmarked}
use Rattle.record_label.proofs.ExprParts.{plain_and, plain_or}
use Rattle.record_label.proofs.Follows.{follows, follows_both, stops_after, taken}
use Rattle.record_label.proofs.FormFacts.{passed, operand_at, in_first, in_rest}
use Rattle.record_label.proofs.GuardFacts.{operands_in, formulas_more}
use Rattle.record_label.proofs.guards.+formulas.Goals as goal

pub formula_of-returns-in-And : goal.formula_of-returns-in-And
formula_of-returns-in-And t c =
    let fields = (plain_signature c.args.signature.now).fields in
    let place = c.args.expr.now.place in
    let es = c.deref-in-And.result.now in
    let whole : plain_expr c.args.expr.now ≡ chain Conjunction place (unmarked (map plain_expr es)) = ap (λ n. plain_node n place) c.in-And.is ∙ plain_and c.in-And.parts place ∙ ap (λ xs. chain Conjunction place (unmarked (map plain_expr xs))) (sym c.deref-in-And.ensures.value) in
    passed c.formulas_of.result (λ made. plain_formula made ≡ joined_of true (map (formula_in fields) (map plain_expr es))) (λ made. plain_formula made ≡ formula_in fields (plain_expr c.args.expr.now)) (HasOutside (forms_in_all fields (unmarked (map plain_expr es)))) (HasOutside (forms_in fields (plain_expr c.args.expr.now)))
    (λ made is. is ∙ ap all_of (operands_in fields (map plain_expr es)) ∙ sym (ap (formula_in fields) whole)) (λ n o. subst (λ e. HasOutside (forms_in fields e) n) (sym whole) o) c.formulas_of.ensures

pub formula_of-returns-in-Or : goal.formula_of-returns-in-Or
formula_of-returns-in-Or t c =
    let fields = (plain_signature c.args.signature.now).fields in
    let place = c.args.expr.now.place in
    let es = c.deref-in-Or.result.now in
    let whole : plain_expr c.args.expr.now ≡ chain Disjunction place (unmarked (map plain_expr es)) = ap (λ n. plain_node n place) c.in-Or.is ∙ plain_or c.in-Or.parts place ∙ ap (λ xs. chain Disjunction place (unmarked (map plain_expr xs))) (sym c.deref-in-Or.ensures.value) in
    passed c.formulas_of-in-Or.result (λ made. plain_formula made ≡ joined_of false (map (formula_in fields) (map plain_expr es))) (λ made. plain_formula made ≡ formula_in fields (plain_expr c.args.expr.now)) (HasOutside (forms_in_all fields (unmarked (map plain_expr es)))) (HasOutside (forms_in fields (plain_expr c.args.expr.now)))
    (λ made is. is ∙ ap some_of (operands_in fields (map plain_expr es)) ∙ sym (ap (formula_in fields) whole)) (λ n o. subst (λ e. HasOutside (forms_in fields e) n) (sym whole) o) c.formulas_of-in-Or.ensures

pub formula_of-returns-in-None : goal.formula_of-returns-in-None
formula_of-returns-in-None t c =
    let fields = (plain_signature c.args.signature.now).fields in
    let a = plain_expr c.in-Compare.left.value in
    let b = plain_expr c.in-Compare.right.value in
    let rel = c.in-Compare.rel in
    let alone = rw (c.deref-in-Compare.ensures, c.deref-in-Compare-2.ensures) at c.in-None.ensures in
    let left = rw c.deref-in-None.ensures at c.formula_of-in-None.ensures in
    let right = rw c.deref-in-None-2.ensures at c.formula_of-in-None-2.ensures in
    rw c.in-Compare.is (follows_both c.formula_of-in-None.result c.formula_of-in-None-2.result c.compared_tests.result (λ f g made. plain_formula made ≡ compared_by rel (agreement_of (plain_formula f) (plain_formula g))) (λ f. plain_formula f ≡ formula_in fields a) (λ f. plain_formula f ≡ formula_in fields b) (λ made. plain_formula made ≡ compared_in fields rel a b (formula_in fields a) (formula_in fields b)) (forms_in fields a) (forms_in fields b)
    (λ f first g second made is. is ∙ (λ i. compared_by rel (agreement_of (first i) (second i))) ∙ sym {a = compared_in fields rel a b (formula_in fields a) (formula_in fields b)} (alone (formula_in fields a) (formula_in fields b))) left right c.compared_tests.ensures)

pub formula_of-returns-in-Not : goal.formula_of-returns-in-Not
formula_of-returns-in-Not t c =
    let fields = (plain_signature c.args.signature.now).fields in
    let e = plain_expr c.in-Not.part.value in
    rw c.in-Not.is (follows c.formula_of.result c.denied.result (λ f made. plain_formula made ≡ negation (plain_formula f)) (λ _ _. ⊥) (λ f. plain_formula f ≡ formula_in fields e) (λ made. plain_formula made ≡ negation (formula_in fields e)) (HasOutside (forms_in fields e)) (HasOutside (forms_in fields e))
    (λ f is made so. so ∙ ap negation is) (λ n o. o) (λ f is n o. absurd o) (rw c.deref.ensures at c.formula_of.ensures) c.denied.ensures)

pub formulas_of-returns-in_err-added : goal.formulas_of-returns-in_err-added
formulas_of-returns-in_err-added t c =
    let fields = (plain_signature c.args.signature.now).fields in
    let it = c.part-item.result in
    let i = c.loop-part.part-index in
    let ps = c.args.parts.now in
    let p = err_from_is_err_and c.from_residual.result c.from_residual.ensures.1 in
    let at = operand_at ps i it c.loop-part-test.true c.part-item.is in
    let out : (n : ℤ) → HasOutside (forms_in fields (plain_expr it)) n → HasOutside (forms_in_all fields (unmarked (map plain_expr ps))) n = λ n o. c.loop-part.invariant.1 n (in_first fields false (plain_expr it) (unmarked (map plain_expr (drop (i + 1) ps))) (unmarked (map plain_expr (drop i ps))) n at o) in
    rw (p.1, p.2) (stops_after c.formula_of.result c.in_err-added.field-0.0 (λ f _. c.added.new.list.items ≡ c.loop-part.formulas.items ++ f ∷ []) (λ _ _. ⊥) (λ f. plain_formula f ≡ formula_in fields (plain_expr it)) (HasOutside (forms_in fields (plain_expr it))) (HasOutside (forms_in_all fields (unmarked (map plain_expr ps)))) out (λ f is n o. absurd o) c.formula_of.ensures c.in_err-added.ensures)

pub formulas_of-loop-part-preserved : goal.formulas_of-loop-part-preserved
formulas_of-loop-part-preserved t c =
    let fields = (plain_signature c.args.signature.now).fields in
    let it = c.part-item.result in
    let i = c.loop-part.part-index in
    let ps = c.args.parts.now in
    let own = taken c.formula_of.result tt (λ f _. c.added.new.list.items ≡ c.loop-part.formulas.items ++ f ∷ []) (λ _ _. ⊥) (λ f. plain_formula f ≡ formula_in fields (plain_expr it)) (HasOutside (forms_in fields (plain_expr it))) c.formula_of.ensures c.in_ok-added.ensures in
    let at = operand_at ps i it c.loop-part-test.true c.part-item.is in (
      rw own.2 (formulas_more fields ps i it c.loop-part.formulas.items own.0 c.loop-part-test.true c.part-item.is c.loop-part.invariant.0 own.1),
      λ n o. c.loop-part.invariant.1 n (in_rest fields false (plain_expr it) (unmarked (map plain_expr (drop (i + 1) ps))) (unmarked (map plain_expr (drop i ps))) n at o),
    )

pub formulas_of-returns : goal.formulas_of-returns
formulas_of-returns t c =
    let fields = (plain_signature c.args.signature.now).fields in
    c.joined.ensures ∙ ap (joined_of c.args.every) (c.loop-part.invariant.0 ∙ ap (λ es. map (formula_in fields) (map plain_expr es)) (take_all c.loop-part.part-index c.args.parts.now c.loop-part-test.false))

pub formula_of-returns-in-Some : goal.formula_of-returns-in-Some
formula_of-returns-in-Some t c =
    let fields = (plain_signature c.args.signature.now).fields in
    let a = plain_expr c.in-Compare.left.value in
    let b = plain_expr c.in-Compare.right.value in
    let rel = c.in-Compare.rel in
    let outside = HasOutside (forms_in fields a ++ forms_in fields b) in
    let told = rw (c.deref-in-Compare.ensures, c.deref-in-Compare-2.ensures) at c.in-Some.ensures in
    rw c.in-Compare.is (passed c.in-Some.made (λ made. (f g : Formula RowAtom) → plain_formula made ≡ compared_in fields rel a b f g) (λ made. plain_formula made ≡ compared_in fields rel a b (formula_in fields a) (formula_in fields b)) outside outside (λ made says. says (formula_in fields a) (formula_in fields b)) (λ n o. o) told)
