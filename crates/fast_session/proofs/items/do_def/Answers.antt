use Rattle.std.proofs.Common.{refl, sym, subst}
use Rattle.fast_syntax.specs.Plain.{plain_item, plain_def}
use Rattle.fast_session.specs.Kept.{items_in}
use Rattle.fast_session.specs.Items.{IsDone, IsStoppedAt}
use Rattle.fast_session.proofs.Judging.{def_stops}
use Rattle.fast_session.proofs.Ready.{def_is, def_made, def_known}
use Rattle.fast_session.proofs.Silent.{done_def}
use Rattle.fast_session.proofs.items.do_def.Goals as goal

pub define-requires-clause-defined : goal.define-requires-clause-defined
define-requires-clause-defined c = def_is _ _ _ c.requires.ready c.requires.composable _ c.requires.is

pub define-requires-clause-made : goal.define-requires-clause-made
define-requires-clause-made c = def_made _ _ _ c.requires.ready c.requires.composable _ c.requires.is

pub define-requires-clause-known : goal.define-requires-clause-known
define-requires-clause-known c = def_known _ _ _ c.requires.ready c.requires.composable _ c.requires.is

pub returns-in_ok-line_of-in-Ok-clause-done : goal.returns-in_ok-line_of-in-Ok-clause-done
returns-in_ok-line_of-in-Ok-clause-done c =
    let items = items_in c.args.around.now in
    subst (IsDone items (plain_item c.args.item.now) _ _) (sym (c.in_ok-line_of-in-Ok.ensures items))
    (done_def _ _ _ _ c.requires.ready c.requires.composable _ c.requires.is (record { built = c.define.ensures.built; grown = c.define.ensures.grown; trees = refl }) c.in-Ok.ensures.named _ c.in-Ok.ensures.counted)

pub returns-in-Err-clause-stopped : goal.returns-in-Err-clause-stopped
returns-in-Err-clause-stopped c =
    let items = items_in c.args.around.now in
    let limit = c.args.around.now.limit in
    subst (IsStoppedAt items limit (plain_item c.args.item.now) c.args.kept.now) (sym c.stopped.ensures) (def_stops items limit (plain_item c.args.item.now) c.args.kept.now (plain_def c.args.own.now) c.requires.is _ c.in-Err.ensures.stop)
