use Rattle.std.proofs.Common.{Contains, sym, ap, subst}
use Rattle.std.proofs.lemmas.Result.{on_ok_weaker, IfErr-weaker}
use Rattle.model_checks.proofs.SoundWhole.{sound}
use Rattle.model_grammar.specs.Syntax.{X, tree, def, assertion}
use Rattle.model_run.specs.Items.{IsComposable}
use Rattle.fast_syntax.specs.Plain.{plain_tree, plain_def, plain_assert, plain_body, plain_item}
use Rattle.fast_build.specs.Items.{items_of}
use Rattle.fast_compose.specs.Composed.{stated, StopsIn}
use Rattle.fast_compose.specs.Stops.{IsComposeCause}
use Rattle.fast_compose.proofs.Answered.{tree_composable, def_composable, claim_composable, cause_of}
use Rattle.fast_compose.proofs.Declared.{stands_there, tree_declared, def_declared, claim_declared}
use Rattle.fast_compose.proofs.Judging.{of_tree, of_def, of_claim}
use Rattle.fast_compose.proofs.checks.composable.Goals as goal

pub composed-requires-clause-declared : goal.composed-requires-clause-declared
composed-requires-clause-declared c =
    let items = items_of c.args.checked.now in
    let item = plain_item c.args.item.now in
    tree_declared items (sound items c.args.checked.now.well_formed) item (stands_there items item c.requires.there) (plain_tree c.in-Tree.own) (ap plain_body c.in-Tree.is)

pub composed-requires-in-Def-clause-declared : goal.composed-requires-in-Def-clause-declared
composed-requires-in-Def-clause-declared c =
    let items = items_of c.args.checked.now in
    let item = plain_item c.args.item.now in
    def_declared items (sound items c.args.checked.now.well_formed) item (stands_there items item c.requires.there) (plain_def c.in-Def.own) (ap plain_body c.in-Def.is)

pub composed_in-requires-clause-declared : goal.composed_in-requires-clause-declared
composed_in-requires-clause-declared c =
    let items = items_of c.args.checked.now in
    let item = plain_item c.args.item.now in
    claim_declared items (sound items c.args.checked.now.well_formed) item (stands_there items item c.requires.there) (plain_assert c.in-Assert.own) (ap plain_body c.in-Assert.is)

pub returns-in-Tree-clause-composable : goal.returns-in-Tree-clause-composable
returns-in-Tree-clause-composable c =
    let items = items_of c.args.checked.now in
    on_ok_weaker c.composed.result (λ all. subst (IsComposable items) (sym (ap plain_body c.in-Tree.is)) (tree_composable items (plain_tree c.in-Tree.own) all)) c.composed.ensures.composable

pub returns-in-Tree-clause-stop : goal.returns-in-Tree-clause-stop
returns-in-Tree-clause-stop c =
    let items = items_of c.args.checked.now in
    let item = plain_item c.args.item.now in
    let t = plain_tree c.in-Tree.own in
    let is = ap plain_body c.in-Tree.is in
    let limit = c.args.limit in
    IfErr-weaker c.composed.result (StopsIn items limit t.value) (IsComposeCause items limit item.body)
    (λ s stops. subst (λ b. IsComposeCause items limit b s) (sym is)
    (cause_of items (sound items c.args.checked.now.well_formed) limit stops.0 stops.1 (tree t) (of_tree items (sound items c.args.checked.now.well_formed) stops.0 stops.1 item (stands_there items item c.requires.there) t is stops.2) s stops.3)) c.composed.ensures.stop

pub returns-in-Def-clause-composable : goal.returns-in-Def-clause-composable
returns-in-Def-clause-composable c =
    let items = items_of c.args.checked.now in
    on_ok_weaker c.composed-in-Def.result (λ all. subst (IsComposable items) (sym (ap plain_body c.in-Def.is)) (def_composable items (plain_def c.in-Def.own) all)) c.composed-in-Def.ensures.composable

pub returns-in-Def-clause-stop : goal.returns-in-Def-clause-stop
returns-in-Def-clause-stop c =
    let items = items_of c.args.checked.now in
    let item = plain_item c.args.item.now in
    let d = plain_def c.in-Def.own in
    let is = ap plain_body c.in-Def.is in
    let limit = c.args.limit in
    IfErr-weaker c.composed-in-Def.result (StopsIn items limit d.value) (IsComposeCause items limit item.body)
    (λ s stops. subst (λ b. IsComposeCause items limit b s) (sym is)
    (cause_of items (sound items c.args.checked.now.well_formed) limit stops.0 stops.1 (def d) (of_def items (sound items c.args.checked.now.well_formed) stops.0 stops.1 item (stands_there items item c.requires.there) d is stops.2) s stops.3)) c.composed-in-Def.ensures.stop

pub returns-in-Assert-clause-composable : goal.returns-in-Assert-clause-composable
returns-in-Assert-clause-composable c =
    let items = items_of c.args.checked.now in
    on_ok_weaker c.composed_in.result (λ all. subst (IsComposable items) (sym (ap plain_body c.in-Assert.is)) (claim_composable items (plain_assert c.in-Assert.own) all)) c.composed_in.ensures.composable

pub returns-in-Assert-clause-stop : goal.returns-in-Assert-clause-stop
returns-in-Assert-clause-stop c =
    let items = items_of c.args.checked.now in
    let item = plain_item c.args.item.now in
    let a = plain_assert c.in-Assert.own in
    let is = ap plain_body c.in-Assert.is in
    let limit = c.args.limit in
    IfErr-weaker c.composed_in.result (λ s. (e : X) × Contains (stated a.claim) e × StopsIn items limit e s) (IsComposeCause items limit item.body)
    (λ s stops. subst (λ b. IsComposeCause items limit b s) (sym is)
    (cause_of items (sound items c.args.checked.now.well_formed) limit stops.2.0 stops.2.1 (assertion a) (of_claim items (sound items c.args.checked.now.well_formed) stops.2.0 stops.2.1 item (stands_there items item c.requires.there) a is stops.0 stops.1 stops.2.2) s stops.2.3)) c.composed_in.ensures.stop
