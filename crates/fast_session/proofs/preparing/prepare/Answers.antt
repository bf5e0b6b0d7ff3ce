use Rattle.std.proofs.Common.{subst}
use Rattle.std.proofs.lemmas.Result.{IfErr-weaker}
use Rattle.std.specs.Str.{chars}
use Rattle.fast_eval.proofs.Places.{on_ok}
use Rattle.fast_session.specs.Kept.{items_in}
use Rattle.fast_session.specs.Needed.{AreNeeded, IsHaltAmong, IsHaltNeeded}
use Rattle.fast_session.proofs.Building.{halt_needed, name_known}
use Rattle.model_checks.proofs.SoundWhole.{sound}
use Rattle.fast_session.proofs.Composed.{needed_compose}
use Rattle.fast_session.proofs.Silent.{nothing_more}
use Rattle.fast_session.proofs.preparing.prepare.Goals as goal

pub returns-in_err-name-clause-more : goal.returns-in_err-name-clause-more
returns-in_err-name-clause-more c = nothing_more (items_in c.args.around.now) c.args.kept.now c.requires.built

pub returns-in_err-names-clause-more : goal.returns-in_err-names-clause-more
returns-in_err-names-clause-more c = nothing_more (items_in c.args.around.now) c.args.kept.now c.requires.built

pub returns-clause-known : goal.returns-clause-known
returns-clause-known c =
    let items = items_in c.args.around.now in
    let keys = c.in_ok-names.names.keys in
    let need = subst (λ n. AreNeeded items n keys) c.in_ok-name.ensures c.in_ok-names.ensures in
    on_ok c.build_each.result (λ defined. name_known items c.args.around.now.limit (chars c.args.name.now) keys need c.build_each.new.kept.built defined) c.build_each.ensures.defined

pub returns-clause-halt : goal.returns-clause-halt
returns-clause-halt c =
    let items = items_in c.args.around.now in
    let limit = c.args.around.now.limit in
    let keys = c.in_ok-names.names.keys in
    let need = subst (λ n. AreNeeded items n keys) c.in_ok-name.ensures c.in_ok-names.ensures in
    IfErr-weaker c.build_each.result (IsHaltAmong items limit keys) (IsHaltNeeded items limit (chars c.args.name.now)) (halt_needed items limit (chars c.args.name.now) keys need) c.build_each.ensures.halt

pub returns-clause-composable : goal.returns-clause-composable
returns-clause-composable c =
    let items = items_in c.args.around.now in
    let name = chars c.args.name.now in
    let keys = c.in_ok-names.names.keys in
    let need = subst (λ n. AreNeeded items n keys) c.in_ok-name.ensures c.in_ok-names.ensures in
    on_ok c.build_each.result (needed_compose items (sound items c.args.around.now.checked.now.well_formed) keys need.closed name need.itself) c.build_each.ensures.composable
