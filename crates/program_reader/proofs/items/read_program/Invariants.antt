use Rattle.std.proofs.Common.{length, ◌++◌}
use Rattle.read_forms.specs.Reads.{anything}
use Rattle.model_program.specs.Grammar.{Many}
use Rattle.model_grammar.specs.Grammar.{IsItem, IsProgram}
use Rattle.read_forms.proofs.Lists.{IsPartWay}
use Rattle.fast_syntax.specs.Plain.{plain_program}
use Rattle.label_reader.specs.Results.{left}
use Rattle.program_reader.proofs.items.read_program.Given as goal

abbrev pub invariant-items : goal.invariant-items
invariant-items l = IsPartWay IsProgram (Many IsItem) anything (λ b. plain_program l.program ++ b) (left l.fn.reader) (left l.reader)

abbrev pub decreases-items : goal.decreases-items
decreases-items l = length (left l.reader)
