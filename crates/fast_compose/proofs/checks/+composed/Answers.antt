use Rattle.std.proofs.Common.{◌≡◌, ◌⊎◌, arith, All, IfErr, OnOk, sym, ap, subst, ◌∙◌, take_all}
use Rattle.std.proofs.lemmas.Result.{on_ok_weaker, IfErr-weaker, IfErr-at_err, IfOk-at_ok}
use Rattle.model_grammar.specs.declared.Op2.TheVariants.{Compose}
use Rattle.model_grammar.specs.Syntax.{one}
use Rattle.model_run.specs.Plain.{IsPlain, IsLinear}
use Rattle.fast_syntax.specs.Plain.{plain_x}
use Rattle.fast_build.specs.Items.{items_of}
use Rattle.fast_eval.proofs.Keeping.{on_err}
use Rattle.model_run.specs.Items.{AreComposable}
use Rattle.fast_compose.specs.Composed.{AreNamesDeclared, StopsIn}
use Rattle.fast_compose.proofs.Parts.{weight_at, two_composable, one_more_child, literal_weighs, literal_declared, literal_composable, literal_stops}
use Rattle.fast_compose.proofs.checks.+composed.Goals.{composed_each-in-Literal, composed_each-in_default}
use Rattle.fast_compose.proofs.checks.+composed.Goals as goal

pub composed-composed_each-requires : goal.composed-composed_each-requires
composed-composed_each-requires t c =
    let items = items_of c.args.checked.now in
    let heavy = literal_weighs items c.args.e.now c.in-Literal.field-0 c.in-Literal.field-1 c.in-Literal.xs c.in-Literal.is c.deref-in-Literal.result.now c.deref-in-Literal.ensures.value in
    (omega (arith, heavy, c.decreases), (c.requires.shallow, literal_declared items c.args.e.now c.in-Literal.field-0 c.in-Literal.field-1 c.in-Literal.xs c.in-Literal.is c.deref-in-Literal.result.now c.deref-in-Literal.ensures.value c.requires.declared))

pub composed-returns-in-One-clause-composable : goal.composed-returns-in-One-clause-composable
composed-returns-in-One-clause-composable t c =
    let items = items_of c.args.checked.now in
    let whole : plain_x c.args.e.now ≡ one c.in-One.field-0 c.in-One.field-1 (plain_x c.deref.result.now) = ap plain_x c.in-One.is ∙ ap (λ v. one c.in-One.field-0 c.in-One.field-1 (plain_x v)) (sym c.deref.ensures) in
    on_ok_weaker c.composed.result (λ h. subst (AreComposable items) (sym whole) h) c.composed.ensures.composable

pub composed-returns-in_ok-composed-in-Two-clause-composable : goal.composed-returns-in_ok-composed-in-Two-clause-composable
composed-returns-in_ok-composed-in-Two-clause-composable t c =
    let items = items_of c.args.checked.now in
    let x = plain_x c.in-Two.first.value in
    let y = plain_x c.in-Two.second.value in
    let own : c.in-Two.op ≡ Compose → IsPlain items x ⊎ IsLinear items y = λ is. subst (λ v. IsPlain items (plain_x v) ⊎ IsLinear items y) c.deref-in-Two.ensures (subst (λ w. IsPlain items (plain_x c.deref-in-Two.result.now) ⊎ IsLinear items (plain_x w)) c.deref-in-Two-2.ensures (c.in_ok-pair_under-in-Two.ensures.composable is)) in
    let first : AreComposable items x = subst (λ v. AreComposable items (plain_x v)) c.deref-in-Two-3.ensures c.in_ok-composed-in-Two.ensures.composable in
    on_ok_weaker c.composed-in-Two-2.result
    (λ h. subst (AreComposable items) (sym (ap plain_x c.in-Two.is)) (two_composable items c.in-Two.op c.in-Two.field-1 x y own first (subst (λ v. AreComposable items (plain_x v)) c.deref-in-Two-4.ensures h)))
    c.composed-in-Two-2.ensures.composable

pub composed-returns-in-Literal-clause-composable : goal.composed-returns-in-Literal-clause-composable
composed-returns-in-Literal-clause-composable t c =
    let items = items_of c.args.checked.now in
    on_ok_weaker c.composed_each.result
    (literal_composable items c.args.e.now c.in-Literal.field-0 c.in-Literal.field-1 c.in-Literal.xs c.in-Literal.is c.deref-in-Literal.result.now c.deref-in-Literal.ensures.value)
    c.composed_each.ensures.composable

pub composed-returns-in-Literal-clause-stop : goal.composed-returns-in-Literal-clause-stop
composed-returns-in-Literal-clause-stop t c =
    let items = items_of c.args.checked.now in
    IfErr-weaker c.composed_each.result _ (StopsIn items c.args.limit (plain_x c.args.e.now))
    (literal_stops items c.args.e.now c.in-Literal.field-0 c.in-Literal.field-1 c.in-Literal.xs c.in-Literal.is c.deref-in-Literal.result.now c.deref-in-Literal.ensures.value c.args.limit)
    c.composed_each.ensures.stop

pub composed_each-composed_each-found-requires : goal.composed_each-composed_each-found-requires
composed_each-composed_each-found-requires t c =
    let items = items_of c.args.checked.now in
    let heavy = literal_weighs items c.x-item.result c.in-Literal.field-0 c.in-Literal.field-1 c.in-Literal.inside c.in-Literal.is c.deref.result.now c.deref.ensures.value in
    let low = weight_at c.args.xs.now c.xs.x-index c.x-item.result c.xs-test.true c.x-item.is in
    let known : AreNamesDeclared items (plain_x c.x-item.result) = subst (λ z. AreNamesDeclared items (plain_x z)) (sym c.x-item.is) (c.requires.declared c.xs.x-index c.x-item.result c.xs-test.true) in
    (omega (arith, heavy, low, c.decreases), (c.requires.shallow, literal_declared items c.x-item.result c.in-Literal.field-0 c.in-Literal.field-1 c.in-Literal.inside c.in-Literal.is c.deref.result.now c.deref.ensures.value known))

pub composed_each-composed-found-requires : goal.composed_each-composed-found-requires
composed_each-composed-found-requires t c =
    let items = items_of c.args.checked.now in
    let low = weight_at c.args.xs.now c.xs.x-index c.x-item.result c.xs-test.true c.x-item.is in
    (omega (arith, low, c.decreases), (c.requires.shallow, subst (λ z. AreNamesDeclared items (plain_x z)) (sym c.x-item.is) (c.requires.declared c.xs.x-index c.x-item.result c.xs-test.true)))

pub composed_each-returns-in_err-found-clause-stop : goal.composed_each-returns-in_err-found-clause-stop
composed_each-returns-in_err-found-clause-stop t c =
    let items = items_of c.args.checked.now in
    let Q = StopsIn items c.args.limit (plain_x c.x-item.result) in
    let found : IfErr c.match-x.found Q = elim c.match-x.branch [
      | composed_each-in-Literal w ↦ subst (λ r. IfErr r Q) (sym w.found-is) (IfErr-weaker w.composed_each-found.result _ Q (literal_stops items c.x-item.result w.in-Literal.field-0 w.in-Literal.field-1 w.in-Literal.inside w.in-Literal.is w.deref.result.now w.deref.ensures.value c.args.limit) w.composed_each-found.ensures.stop)
      | composed_each-in_default w ↦ subst (λ r. IfErr r Q) (sym w.found-is) w.composed-found.ensures.stop
    ] in
    let e = c.in_err-found.field-0.0 in
    on_err _ c.from_residual.result e c.from_residual.ensures.1 (c.x-item.result, (c.xs.x-index, c.xs-test.true, sym c.x-item.is), IfErr-at_err Q c.in_err-found.was found)

pub composed_each-xs-preserved : goal.composed_each-xs-preserved
composed_each-xs-preserved t c =
    let items = items_of c.args.checked.now in
    let P = AreComposable items (plain_x c.x-item.result) in
    let found : OnOk c.match-x.found P = elim c.match-x.branch [
      | composed_each-in-Literal w ↦ subst (λ r. OnOk r P) (sym w.found-is) (on_ok_weaker w.composed_each-found.result (literal_composable items c.x-item.result w.in-Literal.field-0 w.in-Literal.field-1 w.in-Literal.inside w.in-Literal.is w.deref.result.now w.deref.ensures.value) w.composed_each-found.ensures.composable)
      | composed_each-in_default w ↦ subst (λ r. OnOk r P) (sym w.found-is) w.composed-found.ensures.composable
    ] in
    one_more_child items c.args.xs.now c.xs.x-index c.x-item.result c.xs-test.true c.x-item.is c.xs.invariant (IfOk-at_ok (λ _. P) c.in_ok-found.was found)

pub composed_each-returns-clause-composable : goal.composed_each-returns-clause-composable
composed_each-returns-clause-composable t c =
    let items = items_of c.args.checked.now in
    subst (All (λ x. AreComposable items (plain_x x))) (take_all c.xs.x-index c.args.xs.now c.xs-test.false) c.xs.invariant
