use Rattle.label_reader.proofs.Exits.{other_next, none_next}
use Rattle.label_reader.proofs.reader.Reader.peek_if.Goals as goal

pub returns-then-is_same : goal.returns-then-is_same
returns-then-is_same c = (c.in-Some.ensures, c.is_same.ensures.yes c.if-is_same.true)

pub returns-else-is_same : goal.returns-else-is_same
returns-else-is_same c = other_next c.args.word _ c.in-Some.ensures (c.is_same.ensures.no c.if-is_same.false)

pub returns-in-None : goal.returns-in-None
returns-in-None c = none_next c.args.word c.in-None.ensures
