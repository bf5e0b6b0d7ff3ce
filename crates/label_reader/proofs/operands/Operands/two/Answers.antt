use Rattle.label_reader.proofs.Wholes.{two_made}
use Rattle.label_reader.proofs.operands.Operands.two.Goals as goal

pub returns : goal.returns
returns c = let one = c.in_ok-second.ensures in two_made c.args.mark _ c.with-2.result c.in_ok-first.was c.new.ensures.kind c.new.ensures.none one.1 c.with.ensures one.0 c.with-2.ensures
