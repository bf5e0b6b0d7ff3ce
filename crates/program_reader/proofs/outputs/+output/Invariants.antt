use Rattle.std.proofs.Common.{length, map, ◌+◌, ◌*◌, ◌≤◌, ◌++◌}
use Rattle.model_program.specs.declared.Word.TheVariants.{RoundClose}
use Rattle.read_forms.specs.Reads.{closed}
use Rattle.read_forms.proofs.Lists.{IsPartWay}
use Rattle.model_grammar.specs.Terms.{IsOut}
use Rattle.fast_syntax.specs.Plain.{plain_out}
use Rattle.label_reader.specs.Results.{left}
use Rattle.label_reader.specs.Lists.{closing_of}
use Rattle.program_reader.specs.Nodes.{AreOutsToClose}
use Rattle.program_reader.proofs.outputs.+output.Given as goal

abbrev pub invariant-read_outs-items : goal.invariant-read_outs-items
invariant-read_outs-items l = IsPartWay AreOutsToClose (closing_of IsOut RoundClose) closed (λ v. map plain_out l.all.items ++ v.0) (left l.fn.reader) (left l.reader) × (length (left l.reader) ≤ length (left l.fn.reader))

abbrev pub decreases-read_outs-items : goal.decreases-read_outs-items
decreases-read_outs-items l = length (left l.reader)

abbrev pub decreases-read_out : goal.decreases-read_out
decreases-read_out l = 2 * length (left l.reader.now)

abbrev pub decreases-read_outs : goal.decreases-read_outs
decreases-read_outs l = 2 * length (left l.reader.now) + 1
