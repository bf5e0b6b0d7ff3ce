use Rattle.std.proofs.Common.{[], get_or}
use Rattle.sttr_single.specs.Shown.{HasNoneFrom}
use Rattle.sttr_single.proofs.meetings.first_marked.Given as goal

abbrev pub invariant-states : goal.invariant-states
invariant-states l = HasNoneFrom (get_or l.marks.rows 0 []) l.from l.state
