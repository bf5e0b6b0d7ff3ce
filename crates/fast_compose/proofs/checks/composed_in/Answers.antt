use Rattle.std.proofs.Common.{Contains, sym, ap, subst}
use Rattle.std.proofs.lemmas.Result.{on_ok_weaker, IfErr-weaker}
use Rattle.model_grammar.specs.Syntax.{X}
use Rattle.fast_syntax.specs.Plain.{plain_x, plain_claim}
use Rattle.fast_build.specs.Items.{items_of}
use Rattle.fast_eval.proofs.Keeping.{on_err}
use Rattle.model_run.specs.Items.{AreComposable}
use Rattle.fast_compose.specs.Composed.{stated, StopsIn}
use Rattle.fast_compose.proofs.Declared.{of_one, of_two, of_three, second_stated, third_stated}
use Rattle.fast_compose.proofs.checks.composed_in.Goals as goal

pub returns-in_err-composed-in-TypeCheck-2-clause-stop : goal.returns-in_err-composed-in-TypeCheck-2-clause-stop
returns-in_err-composed-in-TypeCheck-2-clause-stop c =
    let items = items_of c.args.checked.now in
    let e = c.in_err-composed-in-TypeCheck-2.field-0.0 in
    on_err (λ s. (z : X) × Contains (stated (plain_claim c.args.claim.now)) z × StopsIn items c.args.limit z s) c.from_residual-in_err-composed-in-TypeCheck-2.result e c.from_residual-in_err-composed-in-TypeCheck-2.ensures.1
    (subst (λ k. (z : X) × Contains (stated k) z × StopsIn items c.args.limit z e) (sym (ap plain_claim c.in-TypeCheck.is)) (second_stated (λ z. StopsIn items c.args.limit z e) (plain_x c.in-TypeCheck.x) (plain_x c.in-TypeCheck.f) (plain_x c.in-TypeCheck.y) c.in_err-composed-in-TypeCheck-2.ensures.stop))

pub returns-in_ok-composed-in-Equal-clause-composable : goal.returns-in_ok-composed-in-Equal-clause-composable
returns-in_ok-composed-in-Equal-clause-composable c =
    let items = items_of c.args.checked.now in
    on_ok_weaker c.composed-in-Equal.result
    (λ second. subst (λ k. (e : X) → Contains (stated k) e → AreComposable items e) (sym (ap plain_claim c.in-Equal.is)) (of_two (AreComposable items) (plain_x c.in-Equal.x) (plain_x c.in-Equal.y) c.in_ok-composed-in-Equal.ensures.composable second))
    c.composed-in-Equal.ensures.composable

pub returns-in_ok-composed-in-Member-clause-composable : goal.returns-in_ok-composed-in-Member-clause-composable
returns-in_ok-composed-in-Member-clause-composable c =
    let items = items_of c.args.checked.now in
    on_ok_weaker c.composed-in-Member-2.result
    (λ second. subst (λ k. (e : X) → Contains (stated k) e → AreComposable items e) (sym (ap plain_claim c.in-Member.is)) (of_two (AreComposable items) (plain_x c.in-Member.x) (plain_x c.in-Member.y) c.in_ok-composed-in-Member.ensures.composable second))
    c.composed-in-Member-2.ensures.composable

pub returns-in-Empty-clause-composable : goal.returns-in-Empty-clause-composable
returns-in-Empty-clause-composable c =
    let items = items_of c.args.checked.now in
    on_ok_weaker c.composed-in-Empty.result
    (λ one. subst (λ k. (e : X) → Contains (stated k) e → AreComposable items e) (sym (ap plain_claim c.in-Empty.is)) (of_one (AreComposable items) (plain_x c.in-Empty.x) one))
    c.composed-in-Empty.ensures.composable

pub returns-in_ok-composed-in-TypeCheck-2-clause-composable : goal.returns-in_ok-composed-in-TypeCheck-2-clause-composable
returns-in_ok-composed-in-TypeCheck-2-clause-composable c =
    let items = items_of c.args.checked.now in
    on_ok_weaker c.composed-in-TypeCheck-3.result
    (λ third. subst (λ k. (e : X) → Contains (stated k) e → AreComposable items e) (sym (ap plain_claim c.in-TypeCheck.is))
    (of_three (AreComposable items) (plain_x c.in-TypeCheck.x) (plain_x c.in-TypeCheck.f) (plain_x c.in-TypeCheck.y) c.in_ok-composed-in-TypeCheck.ensures.composable c.in_ok-composed-in-TypeCheck-2.ensures.composable third))
    c.composed-in-TypeCheck-3.ensures.composable

pub returns-in_ok-composed-in-TypeCheck-2-clause-stop : goal.returns-in_ok-composed-in-TypeCheck-2-clause-stop
returns-in_ok-composed-in-TypeCheck-2-clause-stop c =
    let items = items_of c.args.checked.now in
    IfErr-weaker c.composed-in-TypeCheck-3.result (StopsIn items c.args.limit (plain_x c.in-TypeCheck.y)) (λ s. (z : X) × Contains (stated (plain_claim c.args.claim.now)) z × StopsIn items c.args.limit z s)
    (λ s stop. subst (λ k. (z : X) × Contains (stated k) z × StopsIn items c.args.limit z s) (sym (ap plain_claim c.in-TypeCheck.is)) (third_stated (λ z. StopsIn items c.args.limit z s) (plain_x c.in-TypeCheck.x) (plain_x c.in-TypeCheck.f) (plain_x c.in-TypeCheck.y) stop))
    c.composed-in-TypeCheck-3.ensures.stop
