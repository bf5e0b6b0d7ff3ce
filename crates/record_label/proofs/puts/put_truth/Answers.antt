use Rattle.std.proofs.Common.{map}
use Rattle.model_tree.specs.Formula.{no}
use Rattle.record_label.specs.Maps.{formulas_in}
use Rattle.record_label.specs.PlainMaps.{plain_entry}
use Rattle.record_label.proofs.PutFacts.{nothing_at}
use Rattle.record_label.proofs.puts.put_truth.Goals as goal

pub returns-in-None : goal.returns-in-None
returns-in-None c = nothing_at (formulas_in (map plain_entry c.args.entries.now)) c.args.number no (rw c.in-None.is at c.formula_at.ensures)
