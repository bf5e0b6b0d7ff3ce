use Rattle.sta_min.proofs.Telling.{wide_stops}
use Rattle.sta_min.proofs.values.rows_at.Goals as goal

pub returns-in-Err-Wide-clause-stop : goal.returns-in-Err-Wide-clause-stop
returns-in-Err-Wide-clause-stop g c = wide_stops (g.T.Theory.meaning c.args.theory.now) c.args.guards.now c.in-Err-Wide.chain (rw c.in-Err-Wide.field-0-is at c.in-Err-Wide.ensures.stop)
