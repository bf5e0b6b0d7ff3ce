use Rattle.std.proofs.Common.{◌++◌, ap}
use Rattle.program_check.proofs.Weights.{row_added}
use Rattle.program_check.proofs.waiting.Waiting.add.Goals as goal

pub returns : goal.returns
returns c = ap (λ l. c.args.children.now ++ l) (row_added (λ row. row.now) c.args.self.now.rows.items c.push.new.self.items c.args.self.now.row c.in_ok-push.ensures.items)
