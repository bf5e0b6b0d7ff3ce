use Rattle.std.proofs.Common.{sym, subst}
use Rattle.fast_syntax.specs.Plain.{plain_item}
use Rattle.fast_session.specs.Items.{IsAlwaysStopped}
use Rattle.fast_session.specs.Kept.{items_in}
use Rattle.fast_session.proofs.Uncomposed.{composing_stops}
use Rattle.fast_session.proofs.compositions.can_compose.Goals as goal

pub returns-in-Err-clause-stopped : goal.returns-in-Err-clause-stopped
returns-in-Err-clause-stopped c =
    let items = items_in c.args.around.now in
    let limit = c.args.around.now.limit in
    let item = plain_item c.args.item.now in
    subst (IsAlwaysStopped items limit item) (sym c.uncomposed.ensures) (composing_stops items limit item _ c.in-Err.ensures.stop)
