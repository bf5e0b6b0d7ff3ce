use Rattle.fast_syntax.specs.Plain.{plain_item}
use Rattle.fast_eval.proofs.Keeping.{on_err}
use Rattle.fast_session.specs.Items.{IsStoppedAt}
use Rattle.fast_session.specs.Kept.{items_in}
use Rattle.fast_session.proofs.Building.{stands_there}
use Rattle.fast_session.proofs.Uncomposed.{stopped_here}
use Rattle.fast_session.proofs.items.do_item.Goals as goal

pub can_compose-requires-clause-there : goal.can_compose-requires-clause-there
can_compose-requires-clause-there c = stands_there (items_in c.args.around.now) (plain_item c.args.item.now) c.requires.ready.at

pub returns-in_err-can_compose-clause-stopped : goal.returns-in_err-can_compose-clause-stopped
returns-in_err-can_compose-clause-stopped c =
    let items = items_in c.args.around.now in
    let limit = c.args.around.now.limit in
    let item = plain_item c.args.item.now in
    let old = c.args.kept.now in
    let e = c.in_err-can_compose.field-0.0 in
    on_err (IsStoppedAt items limit item old) c.from_residual.result e c.from_residual.ensures.1 (stopped_here items limit item old e c.in_err-can_compose.ensures.stopped)
