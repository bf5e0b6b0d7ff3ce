use Rattle.std.proofs.Common.{arith}
use Rattle.sta_classes.proofs.Bits.{rows_apart, rows_compared}
use Rattle.sta_classes.proofs.row.RowPartialEq.eq.Goals as goal

pub returns-then-self-other : goal.returns-then-self-other
returns-then-self-other c = rows_apart c.self.inside.places c.other.inside.places c.self.inside.words.items c.other.inside.words.items _ _ c.if-self-other.true c.self.view_is c.other.view_is

pub returns : goal.returns
returns c = rows_compared c.self.inside.places c.other.inside.places c.self.inside.words.items c.other.inside.words.items _ _ c.eq.result (omega arith) c.eq.ensures c.self.invariant c.other.invariant c.self.view_is c.other.view_is
