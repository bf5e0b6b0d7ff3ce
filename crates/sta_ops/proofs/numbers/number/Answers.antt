use Rattle.model_sta.specs.Least.{rows_of}
use Rattle.sta_ops.proofs.Numbering.{next_numbered}
use Rattle.sta_ops.proofs.numbers.number.Goals as goal

pub states-preserved : goal.states-preserved
states-preserved g c = next_numbered (rows_of c.args.table.now.found) c.args.states c.states.state c.states.numbers.items c.states.fresh.items c.states.invariant c.in_ok-number_of.field-0 c.number_of.new.fresh.items c.push.new.self.items c.in_ok-push.ensures.items c.in_ok-number_of.ensures
