use Rattle.std.proofs.Common.{arith}
use Rattle.text_reader.proofs.Counting.{level_here, full_is}
use Rattle.text_reader.proofs.nesting.is_full.Goals as goal

pub returns : goal.returns
returns c = λ marks counts. full_is _ _ _ _ (c.limit_here.ensures marks counts) (let h = level_here _ marks counts in let s = c.saturating_sub.ensures in omega (arith, h, s))
