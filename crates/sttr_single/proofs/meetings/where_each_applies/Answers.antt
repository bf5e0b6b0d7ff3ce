use Rattle.std.proofs.Common.{length}
use Rattle.sttr_single.proofs.More.{each_fits}
use Rattle.sttr_single.proofs.meetings.where_each_applies.Goals as goal

pub with_states-requires : goal.with_states-requires
with_states-requires g c = each_fits c.args.looks.now.ranks (length c.args.looks.now.rules) c.args.joints.now c.requires c.in_ok-states.states.items c.in_ok-states.ensures
