use Rattle.std.proofs.Common.{refl, arith}
use Rattle.text_reader.proofs.Counting.{counts_popped, counts_bottom, none_hidden}
use Rattle.text_reader.proofs.nesting.close_square.Goals as goal

pub returns-in-Some-clause-counts : goal.returns-in-Some-clause-counts
returns-in-Some-clause-counts c = λ marks counts. counts_popped _ _ _ marks counts refl refl c.min.ensures c.in-Some.ensures.items

pub returns-in_default-clause-counts : goal.returns-in_default-clause-counts
returns-in_default-clause-counts c = λ marks counts. let none = c.in_default.ensures.cases in counts_bottom _ _ marks counts refl refl refl (none_hidden c.args.levels.hidden.items (omega (arith, none.0, c.args.levels.hidden.ok.0))) (none_hidden c.pop.new.self.items (omega (arith, none.1, c.pop.new.self.ok.0)))
