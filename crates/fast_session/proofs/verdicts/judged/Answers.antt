use Rattle.std.proofs.Common.{sym, subst}
use Rattle.fast_syntax.specs.Plain.{plain_item, plain_assert}
use Rattle.fast_session.specs.Kept.{items_in}
use Rattle.fast_session.specs.Items.{IsStoppedAt}
use Rattle.fast_session.proofs.Judging.{judged_stops}
use Rattle.fast_session.proofs.Ready.{assertion_ready}
use Rattle.fast_session.proofs.verdicts.judged.Goals as goal

pub judge-requires-clause-made : goal.judge-requires-clause-made
judge-requires-clause-made c = let r = assertion_ready _ _ _ c.requires.ready c.requires.composable _ c.requires.is c.requires.of in (r.type, r.on)

pub judge-requires-clause-known : goal.judge-requires-clause-known
judge-requires-clause-known c = (assertion_ready _ _ _ c.requires.ready c.requires.composable _ c.requires.is c.requires.of).known

pub returns-in-Err-clause-stopped : goal.returns-in-Err-clause-stopped
returns-in-Err-clause-stopped c =
    let items = items_in c.args.around.now in
    let limit = c.args.around.now.limit in
    subst (IsStoppedAt items limit (plain_item c.args.item.now) c.args.kept.now) (sym c.stopped.ensures) (judged_stops items limit (plain_item c.args.item.now) c.args.kept.now (plain_assert c.args.own.now) c.requires.is c.requires.of _ c.in-Err.ensures.stop)
